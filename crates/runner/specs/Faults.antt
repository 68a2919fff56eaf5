-- How the faults of the outside are reported by a run, and what a fault of a run says.
use Rattle.std.specs.Prelude.{◌≡◌, ◌<◌, ◌⊎◌, ◌+◌, ◌^◌, ℕ, true, length, Option, None, Some}
use Rattle.mailcore.specs.declared.side.Side.{Side}
use Rattle.mailcore.specs.declared.side.Side.TheVariants.{Far}
use Rattle.rules.specs.declared.state.SyncState.{SyncState}
use Rattle.sync_state.specs.declared.journal.Journal.{Journal}
use Rattle.sync_state.specs.declared.journal.WrittenJournal.{WrittenJournal}
use Rattle.book.specs.declared.book.Pending.{Pending}
use Rattle.book.specs.declared.book.Pending.TheVariants.{Planned}
use Rattle.book.specs.Books.{Holds}
use Rattle.book.specs.Shelves.{Files}
use Rattle.outside.specs.declared.fault.OutsideFault.{OutsideFault}
use Rattle.outside.specs.declared.fault.OutsideFault.TheVariants as out
use Rattle.outside.specs.BookCalls.{ReportsFiles}
use Rattle.outside.specs.Calls.{IsLast, Seen}
use Rattle.outside.specs.Devices.{Device}
use Rattle.outside.specs.Opened.{Opened, journal_of}
use Rattle.runner.specs.declared.fault.RunFault.{RunFault}
use Rattle.runner.specs.declared.fault.RunFault.TheVariants as run

-- how a fault of the outside is reported while no step is performed: none is a refusal then
abbrev pub call_fault : OutsideFault → RunFault
call_fault out.Stopped = run.Stopped
call_fault out.Refused = run.StoreFault Far 2
call_fault (out.Box side number) = run.StoreFault side number
call_fault (out.BadState line) = run.BadState line
call_fault (out.BadJournal line) = run.BadJournal line
call_fault out.NoMemory = run.NoMemory

-- how it is reported while the step of this number is performed
abbrev pub step_fault : OutsideFault → (number : ℕ) → RunFault
step_fault out.Stopped number = run.Stopped
step_fault out.Refused number = run.Refused number
step_fault (out.Box side code) number = run.StoreFault side code
step_fault (out.BadState line) number = run.BadState line
step_fault (out.BadJournal line) number = run.BadJournal line
step_fault out.NoMemory number = run.NoMemory

-- how many stops a fault reports
abbrev pub stops_met : RunFault → ℕ
stops_met run.Stopped = 1
stops_met (run.Refused step) = 0
stops_met (run.ValidityChanged side) = 0
stops_met (run.BadState line) = 0
stops_met (run.BadJournal line) = 0
stops_met (run.StoreFault side number) = 0
stops_met run.MarksRepeat = 0
stops_met run.NoMemory = 0
stops_met run.KeywordsChanged = 0

-- ---- why a run may report a fault

-- a copy was made whose UID was not reported, and it was not found
pub record IsLost (side : Side) (number : ℕ) (old new : Seen) : Type 0 where
  pub far : side ≡ Far
  pub protocol : number ≡ 3
  pub copied : old.appends < new.appends

-- the files hold a plan, of which the steps before this one are logged, and no other
pub record RefusedAt (step : ℕ) (d : Device) : Type 0 where
  pub state : SyncState
  pub written : WrittenJournal
  pub held : Holds d.files state (Planned written)
  pub next : step ≡ length written.journal.log + 1

-- this step is the one after the last that is logged, of the plan that is pending
pub record IsNextOf (opened : Option Opened) (step : ℕ) : Type 0 where
  pub journal : Journal
  pub pending : journal_of opened ≡ Some journal
  pub next : step ≡ length journal.log + 1

-- A step is reported as refused only where it is the next one of the plan that is pending then. Where the outside behaves as specified, the
-- files hold that plan.
abbrev pub ReportsRefused : (now : Option Opened) → (honest from : Type 0) → Device → (step : ℕ) → Type 0
ReportsRefused now honest from d step = IsNextOf now step × (honest → from → RefusedAt step d)

-- the files hold no book, and this is the first line that shows it
abbrev pub ReportsUnread : (honest : Type 0) → Device → OutsideFault → Type 0
ReportsUnread honest d fault = honest → ReportsFiles fault d.files

-- the state's run has the greatest number
pub record IsLastRun (files : Files) : Type 0 where
  pub state : SyncState
  pub pending : Pending
  pub held : Holds files state pending
  pub greatest : state.run + 1 ≡ 2 ^ 64

-- the same of the state that was read
abbrev pub ReadsLastRun : Option Opened → Type 0
ReadsLastRun None = ⊥
ReadsLastRun (Some o) = o.state.run + 1 ≡ 2 ^ 64

-- no run comes after the state that was read. Where the outside behaves as specified, the files hold it.
abbrev pub ReportsLastRun : (now : Option Opened) → (honest : Type 0) → Device → Type 0
ReportsLastRun now honest d = ReadsLastRun now × (honest → IsLastRun d.files)

-- the files hold a state, and this run is beyond the next one
pub record IsBeyond (run : ℕ) (d : Device) : Type 0 where
  pub state : SyncState
  pub pending : Pending
  pub held : Holds d.files state pending
  pub beyond : state.run + 1 < run

-- by the state that was read, this run is beyond the next one
abbrev pub ReadsBeyond : Option Opened → (run : ℕ) → Type 0
ReadsBeyond None run = ⊥
ReadsBeyond (Some o) run = o.state.run + 1 < run

abbrev pub ReportsBeyond : (now : Option Opened) → (honest : Type 0) → (run : ℕ) → Device → Type 0
ReportsBeyond now honest run d = ReadsBeyond now run × (honest → IsBeyond run d)

-- why faults of the run's own are reported: that a side's UIDVALIDITY has changed, that the map of keywords has, that marks repeat, that
-- the run is beyond the next one, that the state's run has the greatest number, and that the files hold no book, if a line of the state or
-- the journal is reported as bad; and why a refusal is: it is one of this step
pub record Reasons : Type 1 where
  pub changed : Side → Type 0
  pub keywords : Type 0
  pub repeats : Type 0
  pub beyond : Type 0
  pub greatest : Type 0
  pub unread : OutsideFault → Type 0
  pub refused : (step : ℕ) → Type 0

-- while a step is performed: a refusal is one of it
abbrev pub performing : (refused : (step : ℕ) → Type 0) → Reasons
performing refused = record { changed = λ side. ⊥; keywords = ⊥; repeats = ⊥; beyond = ⊥; greatest = ⊥; unread = λ fault. ⊥; refused = refused }

-- while none is, once the shelf was read: no line of it is bad
abbrev pub because : (changed : Side → Type 0) → (repeats : Type 0) → Reasons
because changed repeats = record { changed = changed; keywords = ⊥; repeats = repeats; beyond = ⊥; greatest = ⊥; unread = λ fault. ⊥; refused = λ step. ⊥ }

-- where marks may repeat too
abbrev pub or_repeats : (repeats : Type 0) → Reasons → Reasons
or_repeats repeats reasons = record reasons { repeats = repeats }

-- where the map of keywords may have changed too
abbrev pub or_keywords : (keywords : Type 0) → Reasons → Reasons
or_keywords keywords reasons = record reasons { keywords = keywords }

-- where it is read too
abbrev pub or_unread : (unread : OutsideFault → Type 0) → Reasons → Reasons
or_unread unread reasons = record reasons { unread = unread }

-- where the run may be beyond the next one too
abbrev pub or_beyond : (beyond : Type 0) → Reasons → Reasons
or_beyond beyond reasons = record reasons { beyond = beyond }

-- where the state's run may have the greatest number too
abbrev pub or_greatest : (greatest : Type 0) → Reasons → Reasons
or_greatest greatest reasons = record reasons { greatest = greatest }

-- where steps are performed too
abbrev pub or_refused : (refused : (step : ℕ) → Type 0) → Reasons → Reasons
or_refused refused reasons = record reasons { refused = refused }

-- A call stopped, was refused or had another fault, which is the last that was reported; the faults of the run's own have their reasons.
-- Line 0 of the state: the run is beyond the next one. Line 2: its run has the greatest number. Any line of the state or the journal: the
-- outside has reported it last, line 0 of a copy whose UID is taken, and each other one of files that hold no book.
abbrev pub IsCaused : Reasons → RunFault → Seen → Seen → Type 0
IsCaused reasons run.Stopped old new = (old.is_broken ≡ true) ⊎ (old.stops < new.stops)
IsCaused reasons (run.Refused step) old new = reasons.refused step × IsLast out.Refused old new
IsCaused reasons (run.ValidityChanged side) old new = reasons.changed side
IsCaused reasons (run.BadState line) old new = ((line ≡ 0) × reasons.beyond) ⊎ (((line ≡ 2) × reasons.greatest) ⊎ (IsLast (out.BadState line) old new × ((line ≡ 0) ⊎ reasons.unread (out.BadState line))))
IsCaused reasons (run.BadJournal line) old new = IsLast (out.BadJournal line) old new × reasons.unread (out.BadJournal line)
IsCaused reasons (run.StoreFault side number) old new = IsLast (out.Box side number) old new ⊎ IsLost side number old new
IsCaused reasons run.MarksRepeat old new = reasons.repeats
IsCaused reasons run.NoMemory old new = Unit {0}
IsCaused reasons run.KeywordsChanged old new = reasons.keywords

-- ---- what a fault leaves of a run that is underway

-- It is underway still. Neither the state nor the journal is found bad then, and a refusal or a fault of a box is the last that was
-- reported.
abbrev pub LeavesRun : (underway : Device → Type 0) → RunFault → Seen → Seen → Type 0
LeavesRun underway run.Stopped old new = underway new.device
LeavesRun underway (run.Refused step) old new = underway new.device × IsLast out.Refused old new
LeavesRun underway (run.ValidityChanged side) old new = underway new.device
LeavesRun underway (run.BadState line) old new = ⊥
LeavesRun underway (run.BadJournal line) old new = ⊥
LeavesRun underway (run.StoreFault side number) old new = underway new.device × IsLast (out.Box side number) old new
LeavesRun underway run.MarksRepeat old new = underway new.device
LeavesRun underway run.NoMemory old new = underway new.device
LeavesRun underway run.KeywordsChanged old new = underway new.device
