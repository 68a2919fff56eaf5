-- What is remembered of the marks of messages, whose bytes never change.
use Rattle.std.specs.Prelude.{◌≡◌, ◌<◌, ◌≤◌, ℕ, List, All, Option, None, Some, false}
use Rattle.std.specs.HashSet.{contains}
use Rattle.std.specs.List.{Contains}
use Rattle.std.specs.Str.{bytes_eq}
use Rattle.mailcore.specs.declared.mailbox.Message.{Message}
use Rattle.mailcore.specs.Content.{mark_of}
use Rattle.mailcore.specs.Operations.{is_mark}
use Rattle.mailcore.specs.declared.passed_marks.PassedMarks.{PassedMarks}

-- a message of the range bears another mark, or none
abbrev pub BearsOther : PassedMarks → (mark : List ℕ) → Message → Type 0
BearsOther passed mark m = passed.from ≤ m.uid → m.uid < passed.below → is_mark (mark_of m.bytes) mark ≡ false

-- the range has none of the UIDs to come, and its messages bear no mark beside those that are noted
pub record ArePassed (next : ℕ) (messages : List Message) (passed : PassedMarks) : Type 0 where
  pub below : passed.from < passed.below → passed.below ≤ next
  pub marks : (mark : List ℕ) → contains bytes_eq passed.marks mark ≡ false → All (BearsOther passed mark) messages

-- where there is a mark, it is one of these
abbrev pub IsOneOf : List (List ℕ) → Option (List ℕ) → Type 0
IsOneOf marks None = Unit {0}
IsOneOf marks (Some mark) = Contains marks mark
