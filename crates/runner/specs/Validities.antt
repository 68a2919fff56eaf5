-- The UIDVALIDITY of a side that a run goes by, and when it is reported to have changed.
use Rattle.std.specs.Prelude.{◌≡◌, ◌≢◌, ◌==◌, if◌then◌else◌, ℕ, Bool, true, IsSomeAnd, Option, None, Some}
use Rattle.mailcore.specs.declared.side.Side.{Side}
use Rattle.mailcore.specs.declared.side.Side.TheVariants.{Far, Near}
use Rattle.mailcore.specs.declared.listing.Listing.{Listing}
use Rattle.rules.specs.declared.plan.Plan.{Plan}
use Rattle.rules.specs.declared.state.SyncState.{SyncState}
use Rattle.rules.specs.Outcome.{changed_side}
use Rattle.book.specs.declared.book.Pending.{Pending}
use Rattle.book.specs.declared.book.Pending.TheVariants.{Missing, Useless, Planned}
use Rattle.book.specs.Books.{Holds}
use Rattle.outside.specs.Devices.{Device, box}
use Rattle.outside.specs.Opened.{Opened, with_box}
use Rattle.runner.specs.Answers.{as_read}

-- ---- which one is recorded

abbrev pub plan_validity : Plan → Side → ℕ
plan_validity plan Far = plan.far.validity
plan_validity plan Near = plan.near.validity

abbrev pub state_validity : SyncState → Side → ℕ
state_validity s Far = s.far_validity
state_validity s Near = s.near_validity

-- a state names them after a first run
abbrev pub named_after : (run validity : ℕ) → Option ℕ
named_after run validity = if run == 0 then None else Some validity

abbrev pub after_run : SyncState → Side → Option ℕ
after_run s side = named_after s.run (state_validity s side)

-- that of the plan of the next run, or else the state's
abbrev pub recorded : SyncState → Pending → Side → Option ℕ
recorded s Missing side = after_run s side
recorded s Useless side = after_run s side
recorded s (Planned written) side = Some (plan_validity written.journal.plan side)

abbrev pub recorded_in : Option Opened → Side → Option ℕ
recorded_in None side = None
recorded_in (Some o) side = recorded o.state o.pending side

-- the UIDVALIDITY that this side's box has answered last, if it is open
abbrev pub answered_in : Option Opened → Side → Option ℕ
answered_in None side = None
answered_in (Some o) Far = o.far
answered_in (Some o) Near = o.near

-- ---- whether a mailbox has it

abbrev pub IsSame : Option ℕ → (validity : ℕ) → Type 0
IsSame None validity = Unit {0}
IsSame (Some before) validity = before ≡ validity

abbrev pub IsOther : Option ℕ → (validity : ℕ) → Type 0
IsOther None validity = ⊥
IsOther (Some before) validity = before ≢ validity

abbrev pub HasSame : Option Opened → Side → Device → Type 0
HasSame opened side d = IsSame (recorded_in opened side) (box d side).validity

abbrev pub HasOther : Option Opened → Side → Device → Type 0
HasOther opened side d = IsOther (recorded_in opened side) (box d side).validity

-- both mailboxes have it
abbrev pub BothSame : Option Opened → Device → Type 0
BothSame opened d = HasSame opened Far d × HasSame opened Near d

-- this side's mailbox is the first that has another, far before near
abbrev pub HasChanged : Option Opened → Side → Device → Type 0
HasChanged opened Far d = HasOther opened Far d
HasChanged opened Near d = HasSame opened Far d × HasOther opened Near d

-- on each outside: this side's box has answered it
abbrev pub AnswersSame : Option Opened → Side → Type 0
AnswersSame now side = IsSomeAnd (answered_in now side) (IsSame (recorded_in now side))

-- or another one
abbrev pub AnswersOther : Option Opened → Side → Type 0
AnswersOther now side = IsSomeAnd (answered_in now side) (IsOther (recorded_in now side))

-- this side's box is the first that has answered another, far before near
abbrev pub AnswersChanged : Option Opened → Side → Type 0
AnswersChanged now Far = AnswersOther now Far
AnswersChanged now Near = AnswersSame now Far × AnswersOther now Near

-- this box was opened, and what it answered is so to the recorded one
pub record OpensBox (is : Option ℕ → (validity : ℕ) → Type 0) (side : Side) (old new : Option Opened) : Type 0 where
  pub validity : ℕ
  pub opened : new ≡ with_box side validity old
  pub compared : is (recorded_in old side) validity

-- both boxes were opened
pub record OpensBoth (old new : Option Opened) : Type 0 where
  pub far : ℕ
  pub near : ℕ
  pub opened : new ≡ with_box Near near (with_box Far far old)

-- both listings name those of the mailboxes
pub record HaveValidities (far near : Listing) (d : Device) : Type 0 where
  pub far_is : far.validity ≡ d.far.validity
  pub near_is : near.validity ≡ d.near.store.validity

-- this side's listing is the first that names another than the state, after a first run
abbrev pub ListsChanged : Option Opened → (far near : Listing) → Side → Type 0
ListsChanged None far near side = ⊥
ListsChanged (Some o) far near side = changed_side far near o.state ≡ Some side

-- ---- what stays

-- both mailboxes have the UIDVALIDITY that they had
pub record KeepsValidities (d d' : Device) : Type 0 where
  pub far : d'.far.validity ≡ d.far.validity
  pub near : d'.near.store.validity ≡ d.near.store.validity

-- a run has changed nothing: no call has named a message, the files are as they were, and, where nobody adds messages, both mailboxes
pub record IsKept (alone : Bool) (d d' : Device) : Type 0 where
  pub files : d'.files ≡ d.files
  pub named : d'.named ≡ d.named
  pub validities : KeepsValidities d d'
  pub same : alone ≡ true → d' ≡ d

-- no call has named a message, and, where nobody adds messages, both mailboxes are as they were
abbrev pub LeavesBoxes : (honest : Type 0) → (alone : Bool) → (d d' : Device) → Type 0
LeavesBoxes honest alone d d' = honest → (d'.named ≡ d.named) × (alone ≡ true → (d'.far ≡ d.far) × (d'.near ≡ d.near))

-- ---- when a change is reported

-- only where this side has changed, and nothing else has
abbrev pub ReportsChange : (honest : Type 0) → (alone : Bool) → Option Opened → (d d' : Device) → Side → Type 0
ReportsChange honest alone opened d d' side = honest → HasChanged opened side d × IsKept alone d d'

-- the same by what the files held
abbrev pub ReportsChanged : (honest : Type 0) → (alone : Bool) → (d d' : Device) → Side → Type 0
ReportsChanged honest alone d d' side = honest → (s : SyncState) (p : Pending) → Holds d.files s p → HasChanged (as_read s p) side d × IsKept alone d d'

-- of this box alone
abbrev pub ReportsOther : (honest : Type 0) → (alone : Bool) → Option Opened → (opens : Side) → (d d' : Device) → Side → Type 0
ReportsOther honest alone opened opens d d' side = (side ≡ opens) × (honest → HasOther opened opens d × IsKept alone d d')

-- not where both mailboxes have the UIDVALIDITY that is recorded
abbrev pub ReportsUnlessSame : (honest : Type 0) → Option Opened → Device → Side → Type 0
ReportsUnlessSame honest opened d side = honest → BothSame opened d → ⊥
