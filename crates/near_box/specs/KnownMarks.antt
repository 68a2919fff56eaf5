-- What the near mailbox remembers of the marks of its messages, whose bytes never change.
use Rattle.std.specs.Prelude.{◌≡◌, ◌<◌, ℕ, List, All}
use Rattle.mailcore.specs.declared.mailbox.Message.{Message}
use Rattle.mailcore.specs.Content.{mark_of}
use Rattle.mailcore.specs.Stores.{Store}
use Rattle.maildir.specs.Folders.{Stored}
use Rattle.near_box.specs.declared.known_mark.KnownMark.{KnownMark}
use Rattle.near_box.specs.declared.known_mark.KnownMarks.{KnownMarks}
use Rattle.near_box.specs.declared.survey.SurveyEntry.{SurveyEntry}
use Rattle.near_box.specs.Entries.{bytes_in}
use Rattle.mailcore.specs.Passed.{ArePassed}

-- the UID is below the next one, and each of the messages that has it bears this mark, or none
pub record IsMarkAmong (next : ℕ) (messages : List Message) (known : KnownMark) : Type 0 where
  pub below : known.uid < next
  pub marks : All (λ m. m.uid ≡ known.uid → mark_of m.bytes ≡ known.mark) messages

abbrev pub AreMarksAmong : (next : ℕ) → List Message → List KnownMark → Type 0
AreMarksAmong next messages known = All (IsMarkAmong next messages) known

-- the mark of the message in the file of an entry
abbrev pub mark_at : Stored → SurveyEntry → KnownMark
mark_at s entry = record { uid = entry.uid; mark = mark_of (bytes_in s entry) }

-- what is known of its UID is its mark
abbrev pub AreMarksOfFile : Stored → SurveyEntry → List KnownMark → Type 0
AreMarksOfFile s entry known = All (λ k. entry.uid ≡ k.uid → mark_of (bytes_in s entry) ≡ k.mark) known

-- what is known of the marks of messages
pub record AreKnown (next : ℕ) (messages : List Message) (known : KnownMarks) : Type 0 where
  pub each : AreMarksAmong next messages known.by_uid.items
  pub passed : ArePassed next messages known.passed

-- and of those of a store
abbrev pub AreMarksOf : Store → KnownMarks → Type 0
AreMarksOf store known = AreKnown store.next store.messages known
