-- What is reported of a run: where the copies stand, of which plan the steps are, and which messages were skipped.
use Rattle.std.specs.Prelude.{◌≡◌, ℕ, All, Bool, Contains, List, [], ◌++◌, Option, Some}
use Rattle.mailcore.specs.declared.side.Side.{Side}
use Rattle.mailcore.specs.declared.side.Direction.{Direction}
use Rattle.mailcore.specs.declared.side.Direction.TheVariants.{Pull, Push}
use Rattle.rules.specs.declared.entry.Entry.{Entry}
use Rattle.rules.specs.declared.options.Options.{Options}
use Rattle.rules.specs.declared.plan.Plan.{Plan}
use Rattle.rules.specs.declared.plan.Step.{Step}
use Rattle.rules.specs.declared.plan.Step.TheVariants as step
use Rattle.rules.specs.declared.state.SyncState.{SyncState}
use Rattle.rules.specs.World.{World, scene_of}
use Rattle.planner.specs.Listed.{all_unfit, marks_of}
use Rattle.sync_state.specs.declared.journal.Logged.{Logged}
use Rattle.book.specs.declared.book.Pending.TheVariants.{Missing}
use Rattle.book.specs.Books.{Holds}
use Rattle.law_outcome.specs.Steps.{Fit}
use Rattle.law_outcome.specs.CommitLaws.{results_of}
use Rattle.outside.specs.Devices.{Device, Named}
use Rattle.outside.specs.Opened.{Opened}
use Rattle.run_states.specs.Endings.{EndedUnder}
use Rattle.run_states.specs.Openings.{Opening, Since}
use Rattle.run_states.specs.Plans.{IsPlanned, NamedBy}
use Rattle.runner.specs.declared.pass.Pass.{Pass}
use Rattle.runner.specs.declared.pass.Pass.TheVariants.{Already, Ran, Finished}
use Rattle.runner.specs.declared.performed.Performed.{Performed}
use Rattle.runner.specs.declared.performed.StepResult.{StepResult}
use Rattle.runner.specs.declared.performed.StepResult.TheVariants as did
use Rattle.runner.specs.Before.{IsShown}
use Rattle.runner.specs.Going.{logs_of, steps_of}

-- ---- where the copies stand

-- the entry of a new message and its copy: each stands on its side
abbrev pub entry_with : Direction → (uid flags copy : ℕ) → Entry
entry_with Pull uid flags copy = record { far = Some uid; near = Some copy; flags = flags }
entry_with Push uid flags copy = record { far = Some copy; near = Some uid; flags = flags }

-- what may be reported of a new message: a copy, which stands with it in an entry, or that there is none
abbrev pub IsNewResult : List Entry → Direction → (uid flags : ℕ) → StepResult → Type 0
IsNewResult entries direction uid flags (did.Made copy) = Contains entries (entry_with direction uid flags copy)
IsNewResult entries direction uid flags (did.Found copy) = Contains entries (entry_with direction uid flags copy)
IsNewResult entries direction uid flags did.Void = Unit {0}
IsNewResult entries direction uid flags did.Plain = ⊥

-- what may be reported of another step, which copies nothing
abbrev pub IsOtherResult : StepResult → Type 0
IsOtherResult (did.Made copy) = ⊥
IsOtherResult (did.Found copy) = ⊥
IsOtherResult did.Void = ⊥
IsOtherResult did.Plain = Unit {0}

abbrev pub IsResult : List Entry → Step → StepResult → Type 0
IsResult entries (step.New direction uid flags mark) result = IsNewResult entries direction uid flags result
IsResult entries (step.Gone direction far near) result = IsOtherResult result
IsResult entries (step.Flags direction far near set cleared) result = IsOtherResult result
IsResult entries (step.Expunge side uid) result = IsOtherResult result

-- the files hold a state, in whose entries each copy that is reported stands, and no journal
pub record AreResults (performed : List Performed) (d : Device) : Type 0 where
  pub state : SyncState
  pub files : Holds d.files state Missing
  pub each : All (λ p. IsResult state.entries p.step p.result) performed

abbrev pub HasResults : Pass → Device → Type 0
HasResults Already d = Unit {0}
HasResults (Ran performed unfit) d = AreResults performed.items d
HasResults (Finished performed) d = AreResults performed.items d

-- ---- of which plan the steps are

-- the run is over for this world, and this is its plan, whose marks the copies bear, and whose steps have these results
pub record IsOverBy (ours : List ℕ → Bool) (alone : Bool) (earlier : List Named) (w : World) (options : Options) (plan : Plan) (log : List Logged) (d : Device) : Type 0 where
  pub ended : EndedUnder ours alone earlier w options (marks_of plan.steps) d
  pub planned : IsPlanned ours w options plan
  pub fit : Fit plan.steps (results_of log)

-- the run is over for some world since the opening, and that world's plan, whose steps have these results, is this one
abbrev pub EndsBy : {ours : List ℕ → Bool} {alone : Bool} → Opening ours alone → Plan → List Logged → Device → Type 0
EndsBy {ours} {alone} opening plan log d = Since opening (λ w. IsOverBy ours alone opening.named w opening.options plan log d)

-- The steps reported are those of this plan after these ones. The run is over for a world that has this plan, the copies bear its marks,
-- and each new message that is reported, and no other step, has the UID of a copy. Calls have named no message since the opening but those
-- that the steps of this plan are to change or to remove.
pub record AreStepsOf {ours : List ℕ → Bool} {alone : Bool} (opening : Opening ours alone) (plan : Plan) (before : List Step) (performed : List Performed) (d : Device) : Type 0 where
  pub steps : plan.steps ≡ before ++ steps_of performed
  pub copies : Fit (steps_of performed) (results_of (logs_of performed))
  pub over : Since opening (λ w. EndedUnder ours alone opening.named w opening.options (marks_of plan.steps) d × IsPlanned ours w opening.options plan)
  pub named : NamedBy opening.named plan.steps d.named

-- what is reported of a run that was planned in this pass: all steps of its plan. The world that the run is over for is the one that the two
-- last listings have shown, and the messages that were skipped are those of it which only want fitness to be new.
pub record WholeReport {ours : List ℕ → Bool} {alone : Bool} (opening : Opening ours alone) (now : Option Opened) (performed : List Performed) (unfit : List (Side × ℕ)) (d : Device) : Type 0 where
  pub plan : Plan
  pub all : AreStepsOf opening plan [] performed d
  pub shown : IsShown now all.over.world
  pub skipped : unfit ≡ all_unfit (scene_of all.over.world opening.options)

-- of one that was resumed: the last steps of its plan
pub record RestReport {ours : List ℕ → Bool} {alone : Bool} (opening : Opening ours alone) (performed : List Performed) (d : Device) : Type 0 where
  pub plan : Plan
  pub before : List Step
  pub last : AreStepsOf opening plan before performed d

abbrev pub Report : {ours : List ℕ → Bool} {alone : Bool} → Opening ours alone → (now : Option Opened) → Pass → Device → Type 0
Report opening now Already d = Unit {0}
Report {ours} {alone} opening now (Ran performed unfit) d = WholeReport opening now performed.items unfit.items d
Report {ours} {alone} opening now (Finished performed) d = RestReport opening performed.items d
