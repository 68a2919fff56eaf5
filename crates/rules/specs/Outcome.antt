-- What a run makes of the state, and what it copies, named at once from the listings.
use Rattle.std.specs.Prelude.{ℕ, ◌+◌, max, not, ◌==◌, List, [], ◌∷◌, Option, Some, None, map, filter, count_by, if◌then◌else◌}
use Rattle.mailcore.specs.declared.side.Side.{Side}
use Rattle.mailcore.specs.declared.side.Side.TheVariants.{Far, Near}
use Rattle.mailcore.specs.declared.side.Direction.{Direction}
use Rattle.mailcore.specs.declared.side.Direction.TheVariants.{Pull, Push}
use Rattle.mailcore.specs.declared.listing.Item.{Item}
use Rattle.mailcore.specs.declared.listing.Listing.{Listing}
use Rattle.mailcore.specs.Sides.{source}
use Rattle.rules.specs.declared.entry.Entry.{Entry}
use Rattle.rules.specs.declared.entry.ListedPair.{ListedPair}
use Rattle.rules.specs.declared.state.SyncState.{SyncState}
use Rattle.rules.specs.Propagation.{Drop}
use Rattle.rules.specs.Options.{goes}
use Rattle.rules.specs.Entries.{uid_of}
use Rattle.rules.specs.Scene.{Scene, items, highest}
use Rattle.rules.specs.Called.{is_new, is_gone, pair_of, recorded, called}

-- those of a list that are new in a direction: `shows` is what a listing shows of each
abbrev pub new_among : {X : Type 0} → (shows : X → Item) → Scene → Direction → List X → List X
new_among shows s d xs = filter (λ x. is_new s d (shows x)) xs

-- the listed messages that are copied in a direction
abbrev pub news : Scene → Direction → List Item
news s d = new_among (λ i. i) s d (items s (source d))

-- how many messages are copied
abbrev pub count_new : Scene → ℕ
count_new s = count_by (is_new s Pull) s.far + count_by (is_new s Push) s.near

abbrev pub recorded_or : Scene → (flags : ℕ) → Option ListedPair → ℕ
recorded_or s flags None = flags
recorded_or s flags (Some p) = recorded s p

-- an entry after the run: a side has vanished where a called gone says so
abbrev pub entry_after : Scene → Entry → Entry
entry_after s e = record {
  far = if is_gone s Pull e then None else e.far;
  near = if is_gone s Push e then None else e.near;
  flags = recorded_or s e.flags (pair_of s e);
}

-- the entries that are not dropped, after the run
abbrev pub entries_after : Scene → List Entry
entries_after s = map (entry_after s) (filter (λ e. not (called s (Drop (uid_of Far e) (uid_of Near e)))) s.entries)

-- the greatest UID, or 0 if there is no message
abbrev pub greatest : List Item → ℕ
greatest [] = 0
greatest (i ∷ is) = max i.uid (greatest is)

-- MaxPulledUid and MaxPushedUid after the run
abbrev pub highest_after : Scene → Direction → ℕ
highest_after s d = if goes s.options.cells.new d then max (highest d s) (greatest (items s (source d))) else highest d s

-- the side whose UIDVALIDITY is not the recorded one, far before near; before the first run there is none
abbrev pub changed_side : (far near : Listing) → SyncState → Option Side
changed_side far near state =
    if state.run == 0 then None
    else if not (far.validity == state.far_validity) then Some Far
    else if not (near.validity == state.near_validity) then Some Near
    else None
