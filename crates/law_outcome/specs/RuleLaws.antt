-- What the definitions of a run come to, in laws that the functions of `src/lib.rt` show.
use Rattle.std.specs.Prelude.{ℕ, Bool, ◌<◌, ◌≤◌, ◌≡◌, ◌⊎◌, ◌↔◌, true, false, List, None, Some, Contains, length, map}
use Rattle.mailcore.specs.declared.side.Side.{Side}
use Rattle.mailcore.specs.declared.side.Side.TheVariants.{Far, Near}
use Rattle.mailcore.specs.declared.side.Direction.{Direction}
use Rattle.mailcore.specs.declared.side.Direction.TheVariants.{Pull, Push}
use Rattle.mailcore.specs.declared.listing.Item.{Item}
use Rattle.mailcore.specs.declared.mailbox.Message.{Message}
use Rattle.mailcore.specs.FlagSet.{DELETED, has}
use Rattle.mailcore.specs.Listed.{item_of}
use Rattle.mailcore.specs.Operations.{item_sparing}
use Rattle.mailcore.specs.Rise.{Rise}
use Rattle.mailcore.specs.Sides.{other, source, towards}
use Rattle.rules.specs.declared.entry.Entry.{Entry}
use Rattle.rules.specs.declared.options.Options.{Options}
use Rattle.rules.specs.Propagation.{Propagation, New, Gone, Flags, Expunge, Record, Drop}
use Rattle.rules.specs.Options.{covers, goes}
use Rattle.rules.specs.Entries.{ArePairs, uid_of, uid_on}
use Rattle.rules.specs.Scene.{Scene, flags_at, full_entry, highest, is_paired, items}
use Rattle.rules.specs.Called.{is_new, called}
use Rattle.rules.specs.Order.{place, Before}
use Rattle.rules.specs.Outcome.{count_new}
use Rattle.rules.specs.World.{World, IsInOrder, IsWorld, NamesBelow, store, scene_of}
use Rattle.rules.specs.Copies.{copies_under}
use Rattle.rules.specs.WorldAfter.{new_messages, staying, marks_to, entries_under, state_after, outcome_under, outcome}

-- ---- new messages

abbrev pub NewItemIsUnpaired : Type 0
NewItemIsUnpaired = (s : Scene) (d : Direction) (i : Item) → is_new s d i ≡ true → is_paired s (source d) i.uid ≡ false

abbrev pub NewIsUnpaired : Type 0
NewIsUnpaired = (s : Scene) (d : Direction) (u : ℕ) → called s (New d u) ≡ true → is_paired s (source d) u ≡ false

-- ---- fitness

-- only messages that cannot be new are spared: each is not above the highest UID that was pushed, or an entry names it
abbrev pub SparesOld : Scene → (spared : ℕ → Bool) → Type 0
SparesOld s spared = (uid : ℕ) → spared uid ≡ true → (uid ≤ highest Push s) ⊎ (is_paired s Near uid ≡ true)

-- a near listing that says fit of these calls for the same as the whole listing
abbrev pub FitnessMattersOfNew : Type 0
FitnessMattersOfNew =
    (s : Scene) (spared : ℕ → Bool) (messages : List Message) (q : Propagation) → SparesOld s spared →
    called (record s { near = map (item_sparing Near spared) messages }) q ≡ called (record s { near = map (item_of Near) messages }) q

-- ---- one place, one propagation

abbrev pub OneOfAKind : Type 0
OneOfAKind = (s : Scene) (p q : Propagation) → ArePairs s.entries → called s p ≡ true → called s q ≡ true → place p ≡ place q → p ≡ q

-- ---- the order of a plan

abbrev pub OrderIsIrreflexive : Type 0
OrderIsIrreflexive = (p : Propagation) → Before p p → ⊥

abbrev pub OrderIsTransitive : Type 0
OrderIsTransitive = (p q r : Propagation) → Before p q → Before q r → Before p r

abbrev pub OrderIsTotal : Type 0
OrderIsTotal = (s : Scene) (p q : Propagation) → ArePairs s.entries → called s p ≡ true → called s q ≡ true → Before p q ⊎ ((p ≡ q) ⊎ Before q p)

-- ---- a run, and then a plan

-- nothing more is called for on the outcome
abbrev pub RunSettles : Type 0
RunSettles =
    (w : World) (options : Options) (marks : List (List ℕ)) →
    IsWorld w → NamesBelow w →
    options.expunge.far ≡ false → options.expunge.near ≡ false →
    length marks ≡ count_new (scene_of w options) →
    (q : Propagation) → called (scene_of (outcome w options marks) options) q ≡ false

-- the same for a state that holds the entries in another order
abbrev pub RunSettlesInAnyOrder : Type 0
RunSettlesInAnyOrder =
    (w : World) (options : Options) (marks : List (List ℕ)) (entries : List Entry) →
    IsWorld w → NamesBelow w →
    options.expunge.far ≡ false → options.expunge.near ≡ false →
    length marks ≡ count_new (scene_of w options) →
    ((e : Entry) → Contains entries e ↔ Contains (state_after w options).entries e) →
    (q : Propagation) → called (record (scene_of (outcome w options marks) options) { entries = entries }) q ≡ false

-- and whatever UIDs the copies got, where they rise
abbrev pub RunSettlesUnderAnyUids : Type 0
RunSettlesUnderAnyUids =
    (w : World) (options : Options) (uids : Side → List ℕ) (marks : List (List ℕ)) (next : Side → ℕ) (entries : List Entry) →
    IsWorld w → NamesBelow w →
    options.expunge.far ≡ false → options.expunge.near ≡ false →
    length marks ≡ count_new (scene_of w options) →
    ((side : Side) → Rise (store w side).next (uids side) (next side)) →
    ((e : Entry) → Contains entries e ↔ Contains (entries_under w options uids) e) →
    (q : Propagation) → called (record (scene_of (outcome_under w options uids marks next) options) { entries = entries }) q ≡ false

-- ---- what Expunge reaches

-- where it covers a side, no message that stays is deleted
abbrev pub NoneDeletedStays : Type 0
NoneDeletedStays =
    (w : World) (options : Options) (side : Side) (m : Message) → IsInOrder w →
    covers options.expunge side ≡ true → Contains (staying w options side) m → has m.flags DELETED ≡ false

-- an expunge that is called names a message that was there before
abbrev pub ExpungedWasThere : Type 0
ExpungedWasThere =
    (w : World) (options : Options) (side : Side) (u : ℕ) →
    called (scene_of w options) (Expunge side u) ≡ true → (m : Message) × Contains (store w side).messages m × (m.uid ≡ u)

-- so none names a copy that the run made
abbrev pub CopyIsNotExpunged : Type 0
CopyIsNotExpunged =
    (w : World) (options : Options) (side : Side) (uids : List ℕ) (marks : List (List ℕ)) (next : ℕ) (c : Message) → IsInOrder w →
    Rise (store w side).next uids next →
    Contains (copies_under side uids (marks_to w options side marks) (new_messages w options (towards side))) c →
    called (scene_of w options) (Expunge side c.uid) ≡ false

-- ---- a mark that is recorded

-- Where an entry has \Deleted recorded, a message of it that is listed beside the other one is not removed if it lacks \Deleted, or if
-- the other one does and its flags go over to it.
abbrev pub RecordedMarkIsNoDelete : Type 0
RecordedMarkIsNoDelete =
    (s : Scene) (side : Side) (e : Entry) (u flags theirs : ℕ) →
    full_entry s side u ≡ Some e → flags_at (items s side) u ≡ Some flags → flags_at (items s (other side)) (uid_of (other side) e) ≡ Some theirs →
    has e.flags DELETED ≡ true →
    (has flags DELETED ≡ false) ⊎ ((has theirs DELETED ≡ false) × (goes s.options.cells.flags (towards side) ≡ true)) →
    called s (Expunge side u) ≡ false

-- ---- an entry that has lost a side

-- the entry has this side alone, and its message there is listed, and lacks \Deleted
pub record IsHalf (s : Scene) (e : Entry) (side : Side) (uid : ℕ) : Type 0 where
  pub stands : Contains s.entries e
  pub lost : uid_on (other side) e ≡ None
  pub uid_is : uid_on side e ≡ Some uid
  pub positive : 0 < uid
  pub flags : ℕ
  pub listed : flags_at (items s side) uid ≡ Some flags
  pub unmarked : has flags DELETED ≡ false

-- of a far and a near UID the one of this side
abbrev pub on_side : Side → (far near : ℕ) → ℕ
on_side Far f n = f
on_side Near f n = n

-- the propagation is of the message of this UID on this side
abbrev pub IsOfMessage : Side → (uid : ℕ) → Propagation → Type 0
IsOfMessage side uid (New d u) = (source d ≡ side) × (u ≡ uid)
IsOfMessage side uid (Gone d f n) = on_side side f n ≡ uid
IsOfMessage side uid (Flags d f n set cleared) = on_side side f n ≡ uid
IsOfMessage side uid (Expunge at u) = (at ≡ side) × (u ≡ uid)
IsOfMessage side uid (Record f n w) = on_side side f n ≡ uid
IsOfMessage side uid (Drop f n) = on_side side f n ≡ uid

-- nothing is called for that message, under whatever options: it is not new, not marked, not removed, and its entry stays
abbrev pub HalfEntryIsLeft : Type 0
HalfEntryIsLeft = (s : Scene) (side : Side) (e : Entry) (uid : ℕ) (q : Propagation) → ArePairs s.entries → IsHalf s e side uid → IsOfMessage side uid q → called s q ≡ false
