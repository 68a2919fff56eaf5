-- What was read of the shelf, and what calls of the book ask of it and do to the files.
use Rattle.std.specs.Prelude.{◌≡◌, ℕ, true, Option, None, Some}
use Rattle.device.specs.Calls.{Effect}
use Rattle.rules.specs.declared.plan.Plan.{Plan}
use Rattle.rules.specs.declared.state.SyncState.{SyncState}
use Rattle.sync_state.specs.declared.journal.Journal.{Journal}
use Rattle.sync_state.specs.declared.journal.Logged.{Logged}
use Rattle.book.specs.declared.book.Pending.{Pending}
use Rattle.book.specs.declared.book.Pending.TheVariants.{Missing}
use Rattle.book.specs.Books.{Fits, Holds, IsPlanned, IsSound}
use Rattle.book.specs.BookLogs.{MayBegin, MayLog, is_refused}
use Rattle.book.specs.Commits.{IsFinished, Makes}
use Rattle.book.specs.GivingUp.{LeftOf}
use Rattle.book.specs.LostSides.{Lost}
use Rattle.book.specs.Shelves.{Files}
use Rattle.outside.specs.declared.fault.OutsideFault.{OutsideFault}
use Rattle.outside.specs.declared.fault.OutsideFault.TheVariants.{Stopped, Refused, Box, BadState, BadJournal, NoMemory}
use Rattle.outside.specs.BookCalls.{ReportsFiles}
use Rattle.outside.specs.Opened.{journal_in}

pub record Kept : Type 0 where
  pub state : SyncState
  pub pending : Pending

-- ---- what it says

-- the files hold what was read
abbrev pub IsHeld : Option Kept → Files → Type 0
IsHeld None files = ⊥
IsHeld (Some k) files = Holds files k.state k.pending

-- so much is always so of what was read
abbrev pub IsBook : Option Kept → Type 0
IsBook None = ⊥
IsBook (Some k) = IsSound k.state × Fits k.state k.pending

abbrev pub state_of : Option Kept → Option SyncState
state_of None = None
state_of (Some k) = Some k.state

abbrev pub journal_of : Option Kept → Option Journal
journal_of None = None
journal_of (Some k) = journal_in k.pending

-- ---- how it changes

-- with another journal
abbrev pub turned : (Pending → Pending) → Option Kept → Option Kept
turned f None = None
turned f (Some k) = Some (record k { pending = f k.pending })

-- the state that the journal makes of the one before, and no journal
pub record IsCommitted (old new : Kept) : Type 0 where
  pub made : Makes old.pending old.state new.state
  pub pending : new.pending ≡ Missing

abbrev pub AreCommitted : (old new : Option Kept) → Type 0
AreCommitted None new = ⊥
AreCommitted (Some old) None = ⊥
AreCommitted (Some old) (Some new) = IsCommitted old new

-- the state that is left of the plan, and no journal
pub record IsGivenUp (lost : Lost) (old new : Kept) : Type 0 where
  pub left : LeftOf lost old.pending old.state new.state
  pub pending : new.pending ≡ Missing

abbrev pub AreGivenUp : (lost : Lost) → (old new : Option Kept) → Type 0
AreGivenUp lost None new = ⊥
AreGivenUp lost (Some old) None = ⊥
AreGivenUp lost (Some old) (Some new) = IsGivenUp lost old new

-- ---- what calls ask

abbrev pub IsRead : Option Kept → Type 0
IsRead None = ⊥
IsRead (Some k) = Unit {0}

abbrev pub TakesPlan : Option Kept → Plan → Type 0
TakesPlan None plan = ⊥
TakesPlan (Some k) plan = MayBegin k.state k.pending plan

abbrev pub TakesLog : Option Kept → (step : ℕ) → Logged → Type 0
TakesLog None step logged = ⊥
TakesLog (Some k) step logged = MayLog k.pending step logged

abbrev pub TakesCommit : Option Kept → Type 0
TakesCommit None = ⊥
TakesCommit (Some k) = IsFinished k.pending

abbrev pub TakesGivingUp : Option Kept → Type 0
TakesGivingUp None = ⊥
TakesGivingUp (Some k) = IsPlanned k.pending

-- ---- what calls do to the files, and what they report

-- the effect of a book that was read, by the journal that it has
abbrev pub OfKept : (Pending → Effect Files) → Option Kept → Effect Files
OfKept does None old new = ⊥
OfKept does (Some k) old new = does k.pending old new

-- nothing is changed, and the files hold what was read
abbrev pub ReadsFiles : Option Kept → Effect Files
ReadsFiles kept old new = (new ≡ old) × IsHeld kept old

-- nothing is changed, and the fault says why
abbrev pub LeavesUnread : OutsideFault → Effect Files
LeavesUnread fault old new = (new ≡ old) × ReportsFiles fault old

-- the UID of the copy is taken
abbrev pub IsTaken : Option Kept → Logged → Type 0
IsTaken None logged = ⊥
IsTaken (Some k) logged = is_refused k.state.entries k.pending logged ≡ true

-- logging a step as done: a UID that is taken is reported as line 0 of the state
abbrev pub FromLog : Option Kept → Logged → OutsideFault → Type 0
FromLog kept logged Stopped = Unit {0}
FromLog kept logged Refused = ⊥
FromLog kept logged (Box side number) = ⊥
FromLog kept logged (BadState line) = (line ≡ 0) × IsTaken kept logged
FromLog kept logged (BadJournal line) = ⊥
FromLog kept logged NoMemory = Unit {0}
