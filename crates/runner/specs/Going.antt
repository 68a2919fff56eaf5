-- The plan that is pending is carried out: its next step, and where that stands.
use Rattle.std.specs.Prelude.{◌≡◌, ◌+◌, ◌==◌, not, ℕ, Bool, true, false, List, [], ◌∷◌, ◌++◌, length, map, Option, None, Some, unwrap_or}
use Rattle.mailcore.specs.declared.side.Side.{Side}
use Rattle.mailcore.specs.declared.side.Direction.{Direction}
use Rattle.rules.specs.declared.options.Options.{Options}
use Rattle.rules.specs.declared.plan.Plan.{Plan}
use Rattle.rules.specs.declared.plan.PlanSide.{PlanSide}
use Rattle.rules.specs.declared.plan.Step.{Step}
use Rattle.rules.specs.declared.plan.Step.TheVariants as step
use Rattle.rules.specs.World.{World}
use Rattle.sync_state.specs.declared.version.Version.{Version}
use Rattle.sync_state.specs.declared.version.Version.TheVariants.{Two}
use Rattle.sync_state.specs.JournalText.{FitsStep}
use Rattle.sync_state.specs.declared.journal.Journal.{Journal}
use Rattle.sync_state.specs.declared.journal.Logged.{Logged}
use Rattle.sync_state.specs.declared.journal.Logged.TheVariants.{Copied, Done, Void}
use Rattle.book.specs.declared.book.Pending.{Pending}
use Rattle.book.specs.declared.book.Pending.TheVariants.{Missing, Useless, Planned}
use Rattle.outside.specs.Devices.{Device, Named}
use Rattle.outside.specs.Opened.{IsOpen, Opened, journal_of, listed_of, state_of}
use Rattle.run_states.specs.Moments.{HasBegun, IsSought, Midway, Stands}
use Rattle.run_states.specs.Openings.{Opening, Since}
use Rattle.run_states.specs.Plans.{next_of}
use Rattle.runner.specs.declared.performed.Performed.{Performed}
use Rattle.runner.specs.declared.performed.StepResult.{StepResult}
use Rattle.runner.specs.declared.performed.StepResult.TheVariants as did

-- ---- results

-- how a result is logged
abbrev pub logged_of : StepResult → Logged
logged_of (did.Made copy) = Copied copy
logged_of (did.Found copy) = Copied copy
logged_of did.Void = Void
logged_of did.Plain = Done

-- how many copies were made
abbrev pub made_by : StepResult → ℕ
made_by (did.Made copy) = 1
made_by (did.Found copy) = 0
made_by did.Void = 0
made_by did.Plain = 0

abbrev pub made : List Performed → ℕ
made [] = 0
made (p ∷ performed) = made_by p.result + made performed

abbrev pub logs_of : List Performed → List Logged
logs_of performed = map (λ p. logged_of p.result) performed

abbrev pub steps_of : List Performed → List Step
steps_of performed = map (λ p. p.step) performed

-- ---- the plan that is pending

abbrev pub no_side : PlanSide
no_side = record { validity = 0; highest = 0; next = 0 }

abbrev pub no_journal : Journal
no_journal = record { plan = record { run = 0; far = no_side; near = no_side; steps = []; notes = []; keywords = [] }; log = [] }

abbrev pub journal_at : Option Opened → Journal
journal_at opened = unwrap_or (journal_of opened) no_journal

abbrev pub plan_at : Option Opened → Plan
plan_at opened = (journal_at opened).plan

abbrev pub log_at : Option Opened → List Logged
log_at opened = (journal_at opened).log

-- the version of its text
abbrev pub version_in : Pending → Version
version_in Missing = Two
version_in Useless = Two
version_in (Planned written) = written.version

abbrev pub version_at : Option Opened → Version
version_at None = Two
version_at (Some o) = version_in o.pending

abbrev pub IsUntorn : Pending → Type 0
IsUntorn Missing = ⊥
IsUntorn Useless = ⊥
IsUntorn (Planned written) = written.is_torn ≡ false

abbrev pub HasUntorn : Option Opened → Type 0
HasUntorn None = ⊥
HasUntorn (Some o) = IsUntorn o.pending

-- both boxes are open
abbrev pub AreOpen : Option Opened → Type 0
AreOpen opened = (side : Side) → IsOpen side opened

-- a plan is pending, with no torn line, and both boxes are open
pub record IsGoing (opened : Option Opened) : Type 0 where
  pub untorn : HasUntorn opened
  pub boxes : AreOpen opened

-- the step that is next, and its number
abbrev pub next_at : Option Opened → Option Step
next_at opened = next_of (plan_at opened).steps (log_at opened)

abbrev pub number_at : Option Opened → ℕ
number_at opened = length (log_at opened) + 1

abbrev pub NextAt : Option Opened → Option (ℕ × Step) → Type 0
NextAt opened None = next_at opened ≡ None
NextAt opened (Some next) = (next.0 ≡ number_at opened) × (next_at opened ≡ Some next.1)

-- the next step copies a message under this mark
pub record CopiesUnder (opened : Option Opened) (direction : Direction) (mark : List ℕ) : Type 0 where
  pub uid : ℕ
  pub flags : ℕ
  pub is : next_at opened ≡ Some (step.New direction uid flags mark)

-- flags are set by a call of their own, where there are any
abbrev pub sets_some : (set : ℕ) → Bool
sets_some set = not (set == 0)

-- the next step may be logged so
abbrev pub FitsNext : Option Step → Logged → Type 0
FitsNext None logged = ⊥
FitsNext (Some s) logged = FitsStep s logged

-- so many results more are logged
pub record HasLogged (old new : Option Opened) (results : List Logged) : Type 0 where
  pub going : IsGoing new
  pub state : state_of new ≡ state_of old
  pub version : version_at new ≡ version_at old
  pub plan : plan_at new ≡ plan_at old
  pub log : log_at new ≡ log_at old ++ results
  pub listed : listed_of new ≡ listed_of old

-- ---- where the next step stands, for the plan that is pending, on some world since the opening

-- the state that was read is the opening's, and so much is so of some world since
pub record AtMoment {ours : List ℕ → Bool} {alone : Bool} (opening : Opening ours alone) (opened : Option Opened) (P : World → Type 0) : Type 0 where
  pub state : state_of opened ≡ Some opening.world.state
  pub since : Since opening P

-- none of its calls is done; where the plan was resumed, some or all may be
abbrev pub StepStart : (List ℕ → Bool) → Bool → List Named → World → Options → Version → Plan → List Logged → (is_resumed : Bool) → Device → Type 0
StepStart ours alone earlier w options version plan log false d = Midway ours alone earlier w options version plan log false log false d
StepStart ours alone earlier w options version plan log true d = Stands ours alone earlier w options version plan log false d

abbrev pub BeforeStep : {ours : List ℕ → Bool} {alone : Bool} → Opening ours alone → Option Opened → (is_resumed : Bool) → Device → Type 0
BeforeStep {ours} {alone} opening opened is_resumed d = AtMoment opening opened (λ w. StepStart ours alone opening.named w opening.options (version_at opened) (plan_at opened) (log_at opened) is_resumed d)

-- its flags are set, if they are set by a call of their own
abbrev pub DuringStep : {ours : List ℕ → Bool} {alone : Bool} → Opening ours alone → Option Opened → (is_made : Bool) → Device → Type 0
DuringStep {ours} {alone} opening opened is_made d = AtMoment opening opened (λ w. HasBegun ours alone opening.named w opening.options (version_at opened) (plan_at opened) (log_at opened) is_made d)

-- its copy was looked for
abbrev pub AfterSearch : {ours : List ℕ → Bool} {alone : Bool} → Opening ours alone → Option Opened → (found : Option ℕ) → Device → Type 0
AfterSearch {ours} {alone} opening opened found d = AtMoment opening opened (λ w. IsSought ours alone opening.named w opening.options (version_at opened) (plan_at opened) (log_at opened) found d)

-- it is done, and to be logged so
abbrev pub AfterStep : {ours : List ℕ → Bool} {alone : Bool} → Opening ours alone → Option Opened → Logged → Device → Type 0
AfterStep {ours} {alone} opening opened logged d = AtMoment opening opened (λ w. Midway ours alone opening.named w opening.options (version_at opened) (plan_at opened) (log_at opened) false (log_at opened ++ logged ∷ []) false d)

-- its copy is made, under some UID
abbrev pub AfterCopy : {ours : List ℕ → Bool} {alone : Bool} → Opening ours alone → Option Opened → Device → Type 0
AfterCopy {ours} {alone} opening opened d = AtMoment opening opened (λ w. (copy : ℕ) × Midway ours alone opening.named w opening.options (version_at opened) (plan_at opened) (log_at opened) false (log_at opened ++ Copied copy ∷ []) false d)

-- the copy that was just made was looked for, and found
abbrev pub FoundCopy : {ours : List ℕ → Bool} {alone : Bool} → Opening ours alone → Option Opened → (found : Option ℕ) → Device → Type 0
FoundCopy opening opened None d = ⊥
FoundCopy {ours} {alone} opening opened (Some copy) d = AfterStep opening opened (Copied copy) d
