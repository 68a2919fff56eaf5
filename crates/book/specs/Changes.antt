-- What a journal says of the entries, and how far a walk over them has come in it.
use Rattle.std.specs.Prelude.{ℕ, ◌≤◌, ◌≡◌, Bool, true, false, List, Some, AllPairs}
use Rattle.std.specs.List.{list_any, AllWithin}
use Rattle.std.specs.List.Sorted.{IsPartitionPoint}
use Rattle.mailcore.specs.declared.side.Side.TheVariants.{Far, Near}
use Rattle.mailcore.specs.declared.side.Direction.{Direction}
use Rattle.mailcore.specs.declared.side.Direction.TheVariants.{Pull, Push}
use Rattle.rules.specs.declared.entry.Entry.{Entry}
use Rattle.rules.specs.declared.plan.Step.{Step}
use Rattle.rules.specs.Entries.{uid_of, is_full}
use Rattle.sync_state.specs.JournalText.{note_place, is_below}
use Rattle.sync_state.specs.declared.journal.Journal.{Journal}
use Rattle.book.specs.declared.changes.UidPair.{UidPair}
use Rattle.book.specs.declared.changes.Gones.{Gones}
use Rattle.book.specs.declared.changes.Walk.{Walk}
use Rattle.book.specs.Agreement.{is_pair}
use Rattle.book.specs.Committed.{is_gone}
use Rattle.book.specs.PlacedLists.{entry_place}

-- ---- the entries whose source has vanished

-- the entry has these UIDs
abbrev pub is_of : Entry → UidPair → Bool
is_of e p = is_pair (Some p.far) (Some p.near) e

-- by far and then near UID
abbrev pub PairNotAfter : UidPair → UidPair → Type 0
PairNotAfter a b = (a.far ≤ b.far) × (a.far ≡ b.far → a.near ≤ b.near)

-- in order, and the steps say of just these entries that their source of the direction has vanished
pub record AreGone (steps : List Step) (d : Direction) (pairs : List UidPair) : Type 0 where
  pub in_order : AllPairs PairNotAfter pairs
  pub says : (e : Entry) → list_any (is_of e) pairs ≡ is_gone steps d e

pub record AreGones (steps : List Step) (gones : Gones) : Type 0 where
  pub far : AreGone steps Pull gones.far.items
  pub near : AreGone steps Push gones.near.items

-- ---- places

abbrev pub pair_place : UidPair → ℕ × ℕ × ℕ
pair_place p = (0, p.far, p.near)

-- the place of the pair of an entry
abbrev pub gone_place : Entry → ℕ × ℕ × ℕ
gone_place e = (0, uid_of Far e, uid_of Near e)

-- the place of a note that records the entry
abbrev pub record_place : Entry → ℕ × ℕ × ℕ
record_place e = (8, uid_of Far e, uid_of Near e)

-- the first so many stand below this place
abbrev pub Passed : {X : Type 0} → (X → ℕ × ℕ × ℕ) → ℕ × ℕ × ℕ → List X → ℕ → Type 0
Passed {X} place k xs at = AllWithin (λ (x : X). is_below (place x) k ≡ true) xs 0 at

-- the first so many stand below this place, and no other
abbrev pub Reached : {X : Type 0} → (X → ℕ × ℕ × ℕ) → ℕ × ℕ × ℕ → List X → ℕ → Type 0
Reached {X} place k xs at = IsPartitionPoint (λ (x : X). is_below (place x) k ≡ true) (λ (x : X). is_below (place x) k ≡ false) xs at

-- ---- a walk

-- all that it has passed stands before what is said of the entry
pub record HasPassed (j : Journal) (gones : Gones) (e : Entry) (walk : Walk) : Type 0 where
  pub far_gones : Passed pair_place (gone_place e) gones.far.items walk.far_gones
  pub near_gones : Passed pair_place (gone_place e) gones.near.items walk.near_gones
  pub records : Passed note_place (record_place e) j.plan.notes walk.records
  pub drops : Passed note_place (entry_place e) j.plan.notes walk.drops

-- it has passed all that stands before what is said of the entry, and nothing else; notes record flags of full entries alone
pub record HasReached (j : Journal) (gones : Gones) (e : Entry) (walk : Walk) : Type 0 where
  pub far_gones : Reached pair_place (gone_place e) gones.far.items walk.far_gones
  pub near_gones : Reached pair_place (gone_place e) gones.near.items walk.near_gones
  pub records : is_full e ≡ true → Reached note_place (record_place e) j.plan.notes walk.records
  pub drops : Reached note_place (entry_place e) j.plan.notes walk.drops
