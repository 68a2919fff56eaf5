-- What a book is: what the two files of a shelf say.
use Rattle.std.specs.Prelude.{ℕ, ◌+◌, ◌<◌, ◌≤◌, ◌≡◌, ◌⊎◌, Bool, true, false, List, Option, Some, None, Result, Ok, Err}
use Rattle.device.specs.Calls.{Seen, Effect}
use Rattle.rules.specs.declared.state.SyncState.{SyncState}
use Rattle.rules.specs.Opening.{IsFirst}
use Rattle.sync_state.specs.declared.fault.BookFault.{BookFault}
use Rattle.sync_state.specs.declared.fault.BookFault.TheVariants.{Stopped, BadState, BadJournal, NoMemory}
use Rattle.sync_state.specs.declared.journal.Journal.{Journal}
use Rattle.sync_state.specs.declared.journal.WrittenJournal.{WrittenJournal}
use Rattle.book.specs.declared.book.Pending.{Pending}
use Rattle.book.specs.declared.book.Pending.TheVariants.{Missing, Useless, Planned}
use Rattle.sync_state.specs.Lines.{IsBadLine}
use Rattle.sync_state.specs.declared.version.Version.{Version}
use Rattle.sync_state.specs.declared.version.Version.TheVariants.{Two}
use Rattle.sync_state.specs.StateText.{IsStateText, StateText, StateLines, HasText}
use Rattle.sync_state.specs.JournalText.{HasGo, IsBadJournal, HasJournal}
use Rattle.sync_state.specs.JournalReading.{IsWritten}
use Rattle.book.specs.Agreement.{Agrees, disagreement}
use Rattle.book.specs.Shelves.{Files}

-- a plan of the next run is pending
abbrev pub IsPlanned : Pending → Type 0
IsPlanned Missing = ⊥
IsPlanned Useless = ⊥
IsPlanned (Planned written) = Unit {0}

-- a state that a book may have: after a run it has a text, and else it is the first one
pub record IsSound (s : SyncState) : Type 0 where
  pub made : 0 < s.run → HasText Two s
  pub none : s.run ≡ 0 → IsFirst s

-- the state's file holds this state, in whatever version
abbrev pub HoldsState : Option (List ℕ) → SyncState → Type 0
HoldsState None s = IsFirst s
HoldsState (Some text) s = StateText s text

-- the state's file is there, and holds this state in this version
abbrev pub HoldsStateIn : Version → Option (List ℕ) → SyncState → Type 0
HoldsStateIn version None s = ⊥
HoldsStateIn version (Some text) s = IsStateText version s text

-- there is a journal without a plan, or with one of a run that was made
pub record IsUseless (run : ℕ) (text : List ℕ) : Type 0 where
  pub old : HasGo text → (written : WrittenJournal) × IsWritten written text × (written.journal.plan.run ≤ run)

-- there is a plan of the next run
pub record IsNext (run : ℕ) (written : WrittenJournal) (text : List ℕ) : Type 0 where
  pub written_is : IsWritten written text
  pub next : written.journal.plan.run ≡ run + 1

-- there is one that agrees with the state
pub record IsPending (s : SyncState) (written : WrittenJournal) (text : List ℕ) : Type 0 where
  pub is_next : IsNext s.run written text
  pub agrees : Agrees s.entries written.journal

-- the journal's file holds this, after this state
abbrev pub HoldsJournal : SyncState → Option (List ℕ) → Pending → Type 0
HoldsJournal s None Missing = Unit {0}
HoldsJournal s None Useless = ⊥
HoldsJournal s None (Planned written) = ⊥
HoldsJournal s (Some text) Missing = ⊥
HoldsJournal s (Some text) Useless = IsUseless s.run text
HoldsJournal s (Some text) (Planned written) = IsPending s written text

pub record Held (files : Files) (state : SyncState) (pending : Pending) : Type 0 where
  pub state_file : HoldsState files.state state
  pub journal_file : HoldsJournal state files.journal pending

-- the files hold this state and this journal
abbrev pub Holds : Files → SyncState → Pending → Type 0
Holds files state pending = ∥ Held files state pending ∥₁

-- a journal of the next run: it has a text and agrees with the state
pub record IsFitting (state : SyncState) (journal : Journal) : Type 0 where
  pub has_text : HasJournal journal
  pub next : journal.plan.run ≡ state.run + 1
  pub agrees : Agrees state.entries journal

-- a journal that is pending is one of the next run
abbrev pub Fits : SyncState → Pending → Type 0
Fits state Missing = Unit {0}
Fits state Useless = Unit {0}
Fits state (Planned written) = IsFitting state written.journal

-- why a state's file was not read
abbrev pub ReportsStateFile : Option (List ℕ) → BookFault → Type 0
ReportsStateFile file Stopped = Unit {0}
ReportsStateFile None (BadState line) = ⊥
ReportsStateFile (Some text) (BadState line) = IsBadLine StateLines text line
ReportsStateFile file (BadJournal line) = ⊥
ReportsStateFile file NoMemory = Unit {0}

-- the shelf was whole and is, and no call has stopped in between
pub record IsUnstopped (old new : Seen Files) : Type 0 where
  pub was_whole : old.is_broken ≡ false
  pub is_whole : new.is_broken ≡ false
  pub stops : new.stops ≡ old.stops

-- Files are not read. A stop is reported where the shelf stopped then, which is broken from then on, or was broken before and
-- is as it was. Where a file is refused no call has stopped; where memory ran out none need have.
abbrev pub StopsReported : BookFault → Seen Files → Seen Files → Type 0
StopsReported Stopped old new =
    (new.is_broken ≡ true)
    × (old.is_broken ≡ true → new ≡ old)
    × (old.is_broken ≡ false → old.stops < new.stops)
StopsReported (BadState line) old new = IsUnstopped old new
StopsReported (BadJournal line) old new = IsUnstopped old new
StopsReported NoMemory old new = (old.is_broken ≡ false) × (old.stops ≤ new.stops)

-- a plan of a run above the next one
pub record IsAhead (run : ℕ) (text : List ℕ) : Type 0 where
  pub written : WrittenJournal
  pub written_is : IsWritten written text
  pub ahead : run + 1 < written.journal.plan.run

-- a plan of the next run whose first line that does not agree with the state is this one
pub record IsDisagreeing (s : SyncState) (text : List ℕ) (line : ℕ) : Type 0 where
  pub written : WrittenJournal
  pub is_next : IsNext s.run written text
  pub disagrees : disagreement s.entries written.journal ≡ Some line

-- a text with `go` that is not a journal's from this line on, or not the one of the next run, or does not agree with the state
abbrev pub IsRefused : SyncState → List ℕ → (line : ℕ) → Type 0
IsRefused s text line = (HasGo text × IsBadJournal text line) ⊎ (((line ≡ 2) × IsAhead s.run text) ⊎ IsDisagreeing s text line)

-- why a journal's text was not read
abbrev pub ReportsPending : SyncState → List ℕ → BookFault → Type 0
ReportsPending s text Stopped = ⊥
ReportsPending s text (BadState line) = ⊥
ReportsPending s text (BadJournal line) = IsRefused s text line
ReportsPending s text NoMemory = Unit {0}

-- why a journal's file was not read
abbrev pub ReportsJournalFile : SyncState → Option (List ℕ) → BookFault → Type 0
ReportsJournalFile s file Stopped = Unit {0}
ReportsJournalFile s file (BadState line) = ⊥
ReportsJournalFile s None (BadJournal line) = ⊥
ReportsJournalFile s (Some text) (BadJournal line) = IsRefused s text line
ReportsJournalFile s file NoMemory = Unit {0}

-- the state's file was read, and the journal's was not
pub record JournalRefused (files : Files) (fault : BookFault) : Type 0 where
  pub state : SyncState
  pub state_file : HoldsState files.state state
  pub journal_file : ReportsJournalFile state files.journal fault

-- why a book was not opened
abbrev pub ReportsOpen : Files → BookFault → Type 0
ReportsOpen files fault = ReportsStateFile files.state fault ⊎ JournalRefused files fault

-- without a torn line, in the same version
abbrev pub mended : Pending → Pending
mended Missing = Missing
mended Useless = Useless
mended (Planned written) = Planned (record written { is_torn = false })

-- with a torn line
abbrev pub torn : Pending → Pending
torn Missing = Missing
torn Useless = Useless
torn (Planned written) = Planned (record written { is_torn = true })

-- ---- calls

-- a book as a contract sees it between two calls: whether it goes on, and its shelf
pub record Standing : Type 0 where
  pub is_ready : Bool
  pub shelf : Seen Files

-- A call ends. If it succeeds, the book was ready and goes on, and no call of the shelf has stopped. Where it stops, the
-- shelf stopped in this call and is broken, or the book had failed before, and then nothing was called; from then on it has
-- failed. Where memory runs out it has failed too, and no call of the shelf need have stopped. Where it is refused
-- nothing was called, and the book goes on.
abbrev pub Ends : {T : Type 0} → (is_refused : Bool) → Standing → Standing → Result T BookFault → Type 0
Ends is_refused old new (Ok answer) =
    (is_refused ≡ false) × (old.is_ready ≡ true) × (new.is_ready ≡ true) × IsUnstopped old.shelf new.shelf
Ends is_refused old new (Err Stopped) =
    (new.is_ready ≡ false)
    × (old.is_ready ≡ false → new.shelf ≡ old.shelf)
    × (old.is_ready ≡ true → (is_refused ≡ false) × (old.shelf.stops < new.shelf.stops) × (new.shelf.is_broken ≡ true))
Ends is_refused old new (Err NoMemory) =
    (is_refused ≡ false) × (old.is_ready ≡ true) × (new.is_ready ≡ false) × (old.shelf.stops ≤ new.shelf.stops)
Ends is_refused old new (Err (BadState line)) = (line ≡ 0) × (is_refused ≡ true) × (old.is_ready ≡ true) × (new ≡ old)
Ends is_refused old new (Err (BadJournal line)) = ⊥

-- one journal replaces another, after the same state
abbrev pub Turns : (from to : Pending) → Effect Files
Turns from to old new = (s : SyncState) → Holds old s from → Holds new s to

-- the journal is still there, or what a part of the call leaves of it
abbrev pub TurnsHalf : (from part : Pending) → Effect Files
TurnsHalf from part old new = (s : SyncState) → Holds old s from → Holds new s from ⊎ Holds new s part

-- a call that replaces a journal by another has done so if it succeeds; else it has or has not, or a part of it
abbrev pub Leaves : {T : Type 0} → (from to part : Pending) → (old new : Files) → Result T BookFault → Type 0
Leaves from to part old new (Ok answer) = Turns from to old new
Leaves from to part old new (Err fault) = Turns from to old new ⊎ TurnsHalf from part old new
