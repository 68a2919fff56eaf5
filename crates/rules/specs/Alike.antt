-- When a world that is found is an outcome, by maps: up to the UIDs given and the marks of copies.
use Rattle.std.specs.Prelude.{ℕ, ◌<◌, ◌≤◌, ◌≡◌, ◌≢◌, nat_le, List, ◌++◌, map, filter, codes, AllPairs, Option}
use Rattle.std.specs.List.{AllZip}
use Rattle.std.specs.List.Sorted.{IsPermutation}
use Rattle.mailcore.specs.declared.side.Side.{Side}
use Rattle.mailcore.specs.declared.side.Side.TheVariants.{Far, Near}
use Rattle.mailcore.specs.declared.mailbox.Message.{Message}
use Rattle.mailcore.specs.Mark.{IsMark}
use Rattle.mailcore.specs.Content.{mark_of}
use Rattle.rules.specs.World.{World, NamesBelow, store}
use Rattle.rules.specs.Admission.{admitted}
use Rattle.rules.specs.Renaming.{IsRenaming, entry_under}

-- ---- messages

-- bytes of a copy, and the same but for its mark, the 12 characters after `X-TUID: `
pub record DifferInMark (a b : List ℕ) : Type 0 where
  pub mark : List ℕ
  pub other : List ℕ
  pub rest : List ℕ
  pub is_mark : IsMark mark
  pub is_other : IsMark other
  pub one : a ≡ (codes "X-TUID: " ++ mark) ++ rest
  pub two : b ≡ (codes "X-TUID: " ++ other) ++ rest

-- a message of an outcome, and it as it is found: those from the UID `copies` on are copies, whose mark may be another
pub record IsFoundAs (to : ℕ → ℕ) (copies : ℕ) (m found : Message) : Type 0 where
  pub uid : found.uid ≡ to m.uid
  pub flags : found.flags ≡ m.flags
  pub old : m.uid < copies → found.bytes ≡ m.bytes
  pub copy : copies ≤ m.uid → DifferInMark m.bytes found.bytes

-- the UID from which on the messages of an outcome are copies: what is next once the waiting files have their UIDs
abbrev pub copies_from : (opening : World) → Side → ℕ
copies_from opening side = (store (admitted opening) side).next

-- the marks of the messages from this UID on
abbrev pub marks_from : ℕ → List Message → List (Option (List ℕ))
marks_from u ms = map (λ m. mark_of m.bytes) (filter (λ m. nat_le u m.uid) ms)

-- the marks of the copies that are found on a side
abbrev pub found_marks : (opening : World) → (to : Side → ℕ → ℕ) → (found : World) → Side → List (Option (List ℕ))
found_marks opening to found side = marks_from (to side (copies_from opening side)) (store found side).messages

-- ---- worlds

pub record Alike (opening outcome found : World) : Type 0 where
  pub to : Side → ℕ → ℕ
  pub renames : (side : Side) → IsRenaming (store opening side).next (to side)
  pub messages : (side : Side) → AllZip (IsFoundAs (to side) (copies_from opening side)) (store outcome side).messages (store found side).messages
  pub entries : IsPermutation (map (entry_under to) outcome.state.entries) found.state.entries
  pub max_pulled : found.state.max_pulled ≡ to Far outcome.state.max_pulled
  pub max_pushed : found.state.max_pushed ≡ to Near outcome.state.max_pushed
  pub run : found.state.run ≡ outcome.state.run
  pub far_validity : found.state.far_validity ≡ outcome.state.far_validity
  pub near_validity : found.state.near_validity ≡ outcome.state.near_validity
  pub validity : (side : Side) → (store found side).validity ≡ (store outcome side).validity
  pub waiting : found.waiting ≡ outcome.waiting
  pub marks : AllPairs (λ a b. a ≢ b) (found_marks opening to found Near ++ found_marks opening to found Far)
  pub next : (side : Side) → (store opening side).next ≤ (store found side).next
  pub below : NamesBelow found
