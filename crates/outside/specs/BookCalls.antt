-- What the calls of the book do to the files, and what they report.
use Rattle.std.specs.Prelude.{◌≡◌, true, Option, None, Some}
use Rattle.device.specs.Calls.{Effect}
use Rattle.sync_state.specs.declared.fault.BookFault.TheVariants as book
use Rattle.sync_state.specs.declared.journal.Logged.{Logged}
use Rattle.book.specs.declared.book.Pending.{Pending}
use Rattle.book.specs.Books.{ReportsOpen}
use Rattle.book.specs.BookLogs.{is_refused}
use Rattle.book.specs.Shelves.{Files}
use Rattle.outside.specs.declared.fault.OutsideFault.{OutsideFault}
use Rattle.outside.specs.declared.fault.OutsideFault.TheVariants.{Stopped, Refused, Box, BadState, BadJournal, NoMemory}
use Rattle.outside.specs.Devices.{Device}
use Rattle.outside.specs.Opened.{Opened, IsHeld}

-- the files change, and both mailboxes stay
pub record OnFiles (does : Effect Files) (d d' : Device) : Type 0 where
  pub far : d'.far ≡ d.far
  pub near : d'.near ≡ d.near
  pub named : d'.named ≡ d.named
  pub files : does d.files d'.files

-- the effect on the files of a book that was read, by the journal that it has
abbrev pub OfBook : (Pending → Effect Files) → Option Opened → Effect Device
OfBook does None d d' = ⊥
OfBook does (Some o) d d' = OnFiles (does o.pending) d d'

-- nothing is changed, and the files hold what was read
abbrev pub ReadsBook : Option Opened → Effect Device
ReadsBook opened d d' = (d' ≡ d) × IsHeld opened d

-- why the files hold no book
abbrev pub ReportsFiles : OutsideFault → Files → Type 0
ReportsFiles Stopped files = Unit {0}
ReportsFiles Refused files = Unit {0}
ReportsFiles (Box side number) files = Unit {0}
ReportsFiles (BadState line) files = ReportsOpen files (book.BadState line)
ReportsFiles (BadJournal line) files = ReportsOpen files (book.BadJournal line)
ReportsFiles NoMemory files = Unit {0}

-- nothing is changed, and the fault says why
abbrev pub LeavesUnread : OutsideFault → Effect Device
LeavesUnread fault d d' = (d' ≡ d) × ReportsFiles fault d.files

-- the UID of the copy is taken
abbrev pub IsTaken : Option Opened → Logged → Type 0
IsTaken None logged = ⊥
IsTaken (Some o) logged = is_refused o.state.entries o.pending logged ≡ true

-- logging a step as done: a UID that is taken is reported as line 0 of the state
abbrev pub FromLog : Option Opened → Logged → OutsideFault → Type 0
FromLog opened logged Stopped = Unit {0}
FromLog opened logged Refused = ⊥
FromLog opened logged (Box side number) = ⊥
FromLog opened logged (BadState line) = (line ≡ 0) × IsTaken opened logged
FromLog opened logged (BadJournal line) = ⊥
FromLog opened logged NoMemory = Unit {0}
