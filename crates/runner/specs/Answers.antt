-- What a run answers, and where it leads.
use Rattle.std.specs.Prelude.{◌≡◌, ◌≢◌, ◌≤◌, ◌<◌, ◌+◌, ◌^◌, All, AllPairs, ℕ, Bool, true, List, [], drop, length, Option, None, Some}
use Rattle.rand_core.specs.Stream.{Stream}
use Rattle.mailcore.specs.declared.side.Side.{Side}
use Rattle.mailcore.specs.declared.listing.Listing.{Listing}
use Rattle.mailcore.specs.Mark.{IsMark}
use Rattle.mailcore.specs.Draws.{Draws, Repeats, after_pairs}
use Rattle.rules.specs.declared.options.Options.{Options}
use Rattle.rules.specs.declared.plan.Step.{Step}
use Rattle.rules.specs.declared.state.SyncState.{SyncState}
use Rattle.rules.specs.Outcome.{count_new}
use Rattle.rules.specs.Scene.{scene}
use Rattle.rules.specs.World.{scene_of}
use Rattle.planner.specs.Listed.{AreCalled, all_unfit, marks_of}
use Rattle.book.specs.declared.book.Pending.{Pending}
use Rattle.book.specs.declared.book.Pending.TheVariants.{Missing, Useless, Planned}
use Rattle.book.specs.Books.{Holds}
use Rattle.outside.specs.Devices.{Device}
use Rattle.outside.specs.Opened.{Opened}
use Rattle.run_states.specs.Conditions.{IsOver, Underway}
use Rattle.run_states.specs.Endings.{EndedAt}
use Rattle.run_states.specs.Openings.{IsIdle, Opening, Since}
use Rattle.runner.specs.declared.fault.RunFault.{RunFault}
use Rattle.runner.specs.declared.fault.RunFault.TheVariants as run
use Rattle.runner.specs.declared.pass.Pass.{Pass}
use Rattle.runner.specs.declared.pass.Pass.TheVariants.{Already, Ran, Finished}
use Rattle.runner.specs.declared.performed.Performed.{Performed}
use Rattle.runner.specs.Before.{HasNone, IsShown, ReadUnderway}
use Rattle.runner.specs.Going.{made, steps_of}
use Rattle.runner.specs.Maps.{HasMapIn}

-- ---- which answer, by what the files held at entry

-- the steps of a plan that are not logged
abbrev pub IsRest : Pending → List Performed → Type 0
IsRest Missing performed = ⊥
IsRest Useless performed = ⊥
IsRest (Planned written) performed = steps_of performed ≡ drop (length written.journal.log) written.journal.plan.steps

-- so many marks as there are new messages: the first ones of a generator, which differ
pub record AreDrawn (stream : Stream) (far near : Listing) (state : SyncState) (options : Options) (marks : List (List ℕ)) : Type 0 where
  pub drawn : Draws stream (count_new (scene far near state options)) marks
  pub each : All IsMark marks
  pub differ : AllPairs (λ a b. a ≢ b) marks

-- a generator moves by whole pairs
abbrev pub Moves : (old new : Stream) → Type 0
Moves old new = (pairs : ℕ) × (new ≡ after_pairs old pairs)

-- So many draws in a row give marks that were drawn before, before there are as many as are wanted. Two listings have no room for more
-- messages than this; without a bound it would be so of every generator, since there are only so many marks.
pub record RepeatsFor (stream : Stream) (count : ℕ) : Type 0 where
  pub few : count < 2 ^ 63
  pub repeats : Repeats stream count

-- one is wanted for each new message of two listings
abbrev pub RepeatsIn : Option Opened → Stream → (far near : Listing) → Options → Type 0
RepeatsIn None stream far near options = ⊥
RepeatsIn (Some o) stream far near options = RepeatsFor stream (count_new (scene far near o.state options))

-- one for each new message of the world that the two last listings have shown, where the outside has behaved as specified and began so
pub record HasRepeats {ours : List ℕ → Bool} {alone : Bool} (opening : Opening ours alone) (now : Option Opened) (honest from : Type 0) (options : Options) (stream : Stream) : Type 0 where
  pub count : ℕ
  pub repeats : RepeatsFor stream count
  pub wanted : honest → from → Since opening (λ w. IsShown now w × (count ≡ count_new (scene_of w options)))

-- the steps that the rules call for on two listings, under the first marks of a generator
abbrev pub IsDrawn : Option Opened → Stream → (far near : Listing) → Options → List Step → Type 0
IsDrawn None stream far near options steps = ⊥
IsDrawn (Some o) stream far near options steps = AreDrawn stream far near o.state options (marks_of steps) × AreCalled (scene far near o.state options) steps

-- the messages of two listings that only want fitness to be new
abbrev pub AreUnfit : Option Opened → (far near : Listing) → Options → List (Side × ℕ) → Type 0
AreUnfit None far near options unfit = ⊥
AreUnfit (Some o) far near options unfit = unfit ≡ all_unfit (scene far near o.state options)

-- the steps performed are those of the plan of two listings, and these messages of the same listings were skipped
pub record IsRun (opened : Option Opened) (options : Options) (stream : Stream) (steps : List Step) (unfit : List (Side × ℕ)) : Type 0 where
  pub far : Listing
  pub near : Listing
  pub drawn : IsDrawn opened stream far near options steps
  pub unfit_are : AreUnfit opened far near options unfit

abbrev pub Answers : (run : ℕ) → SyncState → Pending → Pass → Type 0
Answers run s p Already = run ≤ s.run
Answers run s p (Ran performed unfit) = (run ≡ s.run + 1) × IsIdle p
Answers run s p (Finished performed) = (run ≡ s.run + 1) × IsRest p performed.items

abbrev pub AnswersTo : (run : ℕ) → Option Opened → Pass → Type 0
AnswersTo run None pass = ⊥
AnswersTo run (Some o) pass = Answers run o.state o.pending pass

-- what is run where no plan was pending; one that was goes by the map of the options
abbrev pub RunsBy : Option Opened → Options → Stream → Pass → Type 0
RunsBy opened options stream Already = Unit {0}
RunsBy opened options stream (Ran performed unfit) = IsRun opened options stream (steps_of performed.items) unfit.items
RunsBy opened options stream (Finished performed) = HasMapIn options.keywords opened

-- a fault of the marks, the planner, or memory
abbrev pub IsPlanFault : RunFault → Type 0
IsPlanFault run.Stopped = ⊥
IsPlanFault (run.Refused step) = ⊥
IsPlanFault (run.ValidityChanged side) = Unit {0}
IsPlanFault (run.BadState line) = ⊥
IsPlanFault (run.BadJournal line) = ⊥
IsPlanFault (run.StoreFault side number) = ⊥
IsPlanFault run.MarksRepeat = Unit {0}
IsPlanFault run.NoMemory = Unit {0}
IsPlanFault run.KeywordsChanged = ⊥

abbrev pub IsRestOf : Option Opened → List Performed → Type 0
IsRestOf None performed = ⊥
IsRestOf (Some o) performed = IsRest o.pending performed

-- what is read of files that hold this
abbrev pub as_read : SyncState → Pending → Option Opened
as_read s p = Some (record { state = s; pending = p; far = None; near = None; listed = [] })

abbrev pub run_of : Option Opened → ℕ
run_of None = 0
run_of (Some o) = o.state.run

-- so much is so of the state and the journal that the files hold
abbrev pub OfFiles : (honest : Type 0) → Device → (SyncState → Pending → Type 0) → Type 0
OfFiles honest d P = honest → (s : SyncState) (p : Pending) → Holds d.files s p → P s p

-- how many copies a pass made
abbrev pub made_in : Pass → ℕ
made_in Already = 0
made_in (Ran performed unfit) = made performed.items
made_in (Finished performed) = made performed.items

-- ---- where it leads

-- the outcome, and no journal
abbrev pub RunEnd : {ours : List ℕ → Bool} {alone : Bool} → Opening ours alone → Device → Type 0
RunEnd {ours} {alone} opening d = Since opening (λ w. EndedAt ours alone opening.named w opening.options d)

-- what a pass for this run reaches
pub record PassEnd {ours : List ℕ → Bool} {alone : Bool} (opening : Opening ours alone) (run : ℕ) (d : Device) : Type 0 where
  pub underway : Underway opening d
  pub done : opening.world.state.run + 1 ≤ run → IsOver opening d

-- the options of the call are the opening's, and whatever marks its generator gives, from now on or later, nobody else writes
pub record Inputs {ours : List ℕ → Bool} {alone : Bool} (opening : Opening ours alone) (options : Options) (stream : Stream) : Type 0 where
  pub called : opening.called ≡ options
  pub are_ours : (pairs count : ℕ) (marks : List (List ℕ)) → Draws (after_pairs stream pairs) count marks → All (λ mark. ours mark ≡ true) marks

-- a plan may be made
pub record PlanStart {ours : List ℕ → Bool} {alone : Bool} (opening : Opening ours alone) (opened : Option Opened) (options : Options) (stream : Stream) (d : Device) : Type 0 where
  pub asked : Inputs opening options stream
  pub none : HasNone opening opened d

-- where a pass for this run may begin
pub record PassStart {ours : List ℕ → Bool} {alone : Bool} (opening : Opening ours alone) (run : ℕ) (options : Options) (stream : Stream) (d : Device) : Type 0 where
  pub most : run ≤ opening.world.state.run + 1
  pub asked : Inputs opening options stream
  pub underway : Underway opening d

-- the same once the shelf was read
pub record ReadPassStart {ours : List ℕ → Bool} {alone : Bool} (opening : Opening ours alone) (opened : Option Opened) (run : ℕ) (options : Options) (stream : Stream) (d : Device) : Type 0 where
  pub most : run ≤ opening.world.state.run + 1
  pub asked : Inputs opening options stream
  pub known : ReadUnderway opening opened d
