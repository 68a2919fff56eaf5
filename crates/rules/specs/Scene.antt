-- What a plan is made on: the listings of both mailboxes, the state and the options.
use Rattle.std.specs.Prelude.{ℕ, Bool, ◌&&◌, ◌==◌, List, Option, find, is_some}
use Rattle.std.specs.Option.{option_map}
use Rattle.std.specs.List.{list_any}
use Rattle.mailcore.specs.declared.side.Side.{Side}
use Rattle.mailcore.specs.declared.side.Side.TheVariants.{Far, Near}
use Rattle.mailcore.specs.declared.side.Direction.{Direction}
use Rattle.mailcore.specs.declared.side.Direction.TheVariants.{Pull, Push}
use Rattle.mailcore.specs.declared.listing.Item.{Item}
use Rattle.mailcore.specs.declared.listing.Listing.{Listing}
use Rattle.rules.specs.declared.entry.Entry.{Entry}
use Rattle.rules.specs.declared.state.SyncState.{SyncState}
use Rattle.rules.specs.declared.options.Options.{Options}
use Rattle.rules.specs.Entries.{uid_of, is_full}

pub record Scene : Type 0 where
  pub far : List Item
  pub near : List Item
  pub entries : List Entry
  pub max_pulled : ℕ
  pub max_pushed : ℕ
  pub options : Options

-- the scene of these listings, this state and these options
abbrev pub scene : (far near : Listing) → SyncState → Options → Scene
scene far near state options = record {
  far = far.items;
  near = near.items;
  entries = state.entries;
  max_pulled = state.max_pulled;
  max_pushed = state.max_pushed;
  options = options;
}

abbrev pub items : Scene → Side → List Item
items s Far = s.far
items s Near = s.near

-- the highest UID that has been taken over in a direction
abbrev pub highest : Direction → Scene → ℕ
highest Pull s = s.max_pulled
highest Push s = s.max_pushed

-- the flags of the message with this UID, if it is listed
abbrev pub flags_at : List Item → ℕ → Option ℕ
flags_at is u = option_map (λ i. i.flags) (find (λ i. i.uid == u) is)

abbrev pub is_listed : Scene → Side → ℕ → Bool
is_listed s side u = is_some (flags_at (items s side) u)

-- an entry names this UID on this side
abbrev pub is_paired : Scene → Side → ℕ → Bool
is_paired s side u = list_any (λ e. uid_of side e == u) s.entries

-- the full entry with this UID on this side, if there is one
abbrev pub full_entry : Scene → Side → ℕ → Option Entry
full_entry s side u = find (λ e. is_full e && uid_of side e == u) s.entries
