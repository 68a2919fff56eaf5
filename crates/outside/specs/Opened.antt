-- What of an outside has been opened, and what its calls ask of that.
use Rattle.std.specs.Prelude.{◌≡◌, ℕ, IsSome, List, [], ◌∷◌, Option, None, Some}
use Rattle.mailcore.specs.declared.side.Side.{Side}
use Rattle.mailcore.specs.declared.side.Side.TheVariants.{Far, Near}
use Rattle.rules.specs.declared.plan.Plan.{Plan}
use Rattle.rules.specs.declared.state.SyncState.{SyncState}
use Rattle.sync_state.specs.declared.journal.Journal.{Journal}
use Rattle.sync_state.specs.declared.journal.Logged.{Logged}
use Rattle.book.specs.declared.book.Pending.{Pending}
use Rattle.book.specs.declared.book.Pending.TheVariants.{Missing, Useless, Planned}
use Rattle.book.specs.Books.{Fits, Holds, IsPlanned, IsSound}
use Rattle.book.specs.BookLogs.{MayBegin, MayLog}
use Rattle.book.specs.Commits.{IsFinished, Makes}
use Rattle.book.specs.GivingUp.{LeftOf}
use Rattle.book.specs.LostSides.{Lost}
use Rattle.outside.specs.Devices.{Device}

-- What was read of the shelf; of each box that is open the UIDVALIDITY that opening or listing it has answered last; and which device each
-- listing of a run has shown, the last first.
pub record Opened : Type 0 where
  pub state : SyncState
  pub pending : Pending
  pub far : Option ℕ
  pub near : Option ℕ
  pub listed : List Device

-- ---- what it says

-- the files hold what was read
abbrev pub IsHeld : Option Opened → Device → Type 0
IsHeld None d = ⊥
IsHeld (Some o) d = Holds d.files o.state o.pending

-- so much is always so of what was read
abbrev pub IsBook : Option Opened → Type 0
IsBook None = ⊥
IsBook (Some o) = IsSound o.state × Fits o.state o.pending

abbrev pub state_of : Option Opened → Option SyncState
state_of None = None
state_of (Some o) = Some o.state

abbrev pub journal_in : Pending → Option Journal
journal_in Missing = None
journal_in Useless = None
journal_in (Planned written) = Some written.journal

-- the plan that is pending, and which of its steps are logged
abbrev pub journal_of : Option Opened → Option Journal
journal_of None = None
journal_of (Some o) = journal_in o.pending

-- ---- how it changes

-- with another journal
abbrev pub turned : (Pending → Pending) → Option Opened → Option Opened
turned f None = None
turned f (Some o) = Some (record o { pending = f o.pending })

-- with the box of a side open, which has answered this UIDVALIDITY
abbrev pub with_box : Side → (validity : ℕ) → Option Opened → Option Opened
with_box side validity None = None
with_box Far validity (Some o) = Some (record o { far = Some validity })
with_box Near validity (Some o) = Some (record o { near = Some validity })

-- a listing of the far mailbox shows it as it stands, under the next UID that it reports
abbrev pub shown_far : (next : ℕ) → Device → Device
shown_far next d = record d { far = record d.far { next = next } }

-- with a listing of the box of a side, which has answered this UIDVALIDITY and shown this device
abbrev pub with_listing : Side → (validity : ℕ) → Device → Option Opened → Option Opened
with_listing side validity d None = None
with_listing Far validity d (Some o) = Some (record o { far = Some validity; listed = d ∷ o.listed })
with_listing Near validity d (Some o) = Some (record o { near = Some validity; listed = d ∷ o.listed })

abbrev pub listed_of : Option Opened → List Device
listed_of None = []
listed_of (Some o) = o.listed

-- the state that the journal makes of the one before, and no journal
pub record IsCommitted (old new : Opened) : Type 0 where
  pub made : Makes old.pending old.state new.state
  pub pending : new.pending ≡ Missing
  pub far : new.far ≡ old.far
  pub near : new.near ≡ old.near
  pub listed : new.listed ≡ old.listed

abbrev pub AreCommitted : (old new : Option Opened) → Type 0
AreCommitted None new = ⊥
AreCommitted (Some old) None = ⊥
AreCommitted (Some old) (Some new) = IsCommitted old new

-- the state that is left of the plan, and no journal
pub record IsGivenUp (lost : Lost) (old new : Opened) : Type 0 where
  pub left : LeftOf lost old.pending old.state new.state
  pub pending : new.pending ≡ Missing
  pub far : new.far ≡ old.far
  pub near : new.near ≡ old.near

abbrev pub AreGivenUp : (lost : Lost) → (old new : Option Opened) → Type 0
AreGivenUp lost None new = ⊥
AreGivenUp lost (Some old) None = ⊥
AreGivenUp lost (Some old) (Some new) = IsGivenUp lost old new

-- ---- what calls ask

-- the shelf was read
abbrev pub IsRead : Option Opened → Type 0
IsRead None = ⊥
IsRead (Some o) = Unit {0}

-- the box of this side is open
abbrev pub IsOpen : Side → Option Opened → Type 0
IsOpen side None = ⊥
IsOpen Far (Some o) = IsSome o.far
IsOpen Near (Some o) = IsSome o.near

-- no plan is pending: the journal may go
abbrev pub TakesDiscard : Option Opened → Type 0
TakesDiscard None = ⊥
TakesDiscard (Some o) = IsPlanned o.pending → ⊥

abbrev pub TakesPlan : Option Opened → Plan → Type 0
TakesPlan None plan = ⊥
TakesPlan (Some o) plan = MayBegin o.state o.pending plan

abbrev pub TakesLog : Option Opened → (step : ℕ) → Logged → Type 0
TakesLog None step logged = ⊥
TakesLog (Some o) step logged = MayLog o.pending step logged

abbrev pub TakesCommit : Option Opened → Type 0
TakesCommit None = ⊥
TakesCommit (Some o) = IsFinished o.pending

-- a plan is pending: it may be given up
abbrev pub TakesGivingUp : Option Opened → Type 0
TakesGivingUp None = ⊥
TakesGivingUp (Some o) = IsPlanned o.pending
