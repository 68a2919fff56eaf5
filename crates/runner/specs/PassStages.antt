-- What the stages of a pass say: a plan is made, or the one that is pending is resumed, once the shelf was read.
use Rattle.std.specs.Prelude.{◌≡◌, ◌<◌, ◌+◌, ◌^◌, ℕ, Bool, false, List, [], Result, IfOk}
use Rattle.rand_core.specs.Stream.{Stream}
use Rattle.mailcore.specs.declared.keywords.Keyword.{Keyword}
use Rattle.mailcore.specs.declared.side.Side.{Side}
use Rattle.rules.specs.declared.options.Options.{Options}
use Rattle.rules.specs.World.{scene_of}
use Rattle.planner.specs.Listed.{all_unfit}
use Rattle.outside.specs.declared.outside.Outside.{Ghosts}
use Rattle.outside.specs.Devices.{Device}
use Rattle.outside.specs.Opened.{AreCommitted, IsBook, IsHeld}
use Rattle.run_states.specs.Conditions.{Underway}
use Rattle.run_states.specs.Openings.{Opening}
use Rattle.runner.specs.declared.fault.RunFault.{RunFault}
use Rattle.runner.specs.declared.pass.Pass.{Pass}
use Rattle.runner.specs.Answers.{AnswersTo, HasRepeats, IsRun, Moves, PlanStart, ReadPassStart, RunsBy, made_in, run_of}
use Rattle.runner.specs.Asking.{Asks, read_back}
use Rattle.runner.specs.Before.{HasNoPlan, IsEmptied, IsShown, world_shown}
use Rattle.runner.specs.ChangedMaps.{ReportsMap}
use Rattle.runner.specs.Faults.{ReadsBeyond, Reasons, because, or_beyond, or_keywords, or_repeats}
use Rattle.runner.specs.Finding.{FindsBy, OfSame}
use Rattle.runner.specs.Going.{AreOpen, BeforeStep, IsGoing, log_at, plan_at}
use Rattle.runner.specs.Naming.{NamesBy}
use Rattle.runner.specs.Parts.{RunPart}
use Rattle.runner.specs.Results.{EndsBy, HasResults, Report}
use Rattle.runner.specs.Validities.{AnswersChanged, LeavesBoxes, ReportsChange, ReportsUnlessSame}

module _ {O : Type 0} (o : Ghosts O) where
  -- ---- what each call keeps

  -- it behaved as specified before, if it does so afterwards, and its map of keywords is the same
  pub record Frame (old new : O) : Type 0 where
    pub was_honest : o.honest new → o.honest old
    pub keywords : o.keywords new ≡ o.keywords old

  -- ---- why a stage may report a fault of the run's own

  -- that a listing names another UIDVALIDITY than the state, which it does not where both mailboxes have the recorded one
  abbrev pub plan_reasons : (old new : O) → Reasons
  plan_reasons old new = because (λ side. ReportsUnlessSame (o.honest new) (o.opened old) (o.seen old).device side × AnswersChanged (o.opened new) side) ⊥

  -- that a UIDVALIDITY has changed, or that a plan goes by another map, once the shelf was read; nothing else has changed then
  abbrev pub read_reasons : List Keyword → (old new : O) → Reasons
  read_reasons keywords old new =
      let d = (o.seen old).device in
      let d' = (o.seen new).device in
      or_keywords (ReportsMap (o.honest new) o.alone (o.opened old) (o.opened new) keywords d d') (because (λ side. ReportsChange (o.honest new) o.alone (o.opened old) d d' side × AnswersChanged (o.opened new) side) ⊥)

  -- that, or that the run is beyond the next one
  abbrev pub run_reasons : (run : ℕ) → List Keyword → (old new : O) → Reasons
  run_reasons run keywords old new = or_beyond (ReadsBeyond (o.opened old) run × ReadsBeyond (o.opened new) run) (read_reasons keywords old new)

  -- ---- a run that was made before

  -- both mailboxes stay as they are, and a journal without a plan of the next run goes
  pub record LeavesSkipped (old new : O) : Type 0 where
    pub stores : LeavesBoxes (o.honest new) o.alone (o.seen old).device (o.seen new).device
    pub emptied : o.honest new → IsHeld (o.opened old) (o.seen old).device → IsEmptied (o.opened old) (o.seen new).device

  -- ---- where a stage begins

  -- the shelf was read, no call has failed since, and the options go by the map of the outside
  pub record IsReadFor (options : Options) (old : O) : Type 0 where
    pub book : IsBook (o.opened old)
    pub whole : (o.seen old).is_broken ≡ false
    pub map : o.keywords old ≡ options.keywords

  module _ (opening : Opening o.ours o.alone) where
    -- no plan is pending, both boxes are open, a run may come next, and the opening goes by the map of the outside
    pub record MayPlan (old : O) : Type 0 where
      pub none : HasNoPlan (o.opened old)
      pub boxes : AreOpen (o.opened old)
      pub room : run_of (o.opened old) + 1 < 2 ^ 64
      pub map : opening.options.keywords ≡ o.keywords old

    -- ---- a stage

    -- What is said of an answer to this run, by what was read when the stage began. If the run was underway so: the report, which copies
    -- were found, and what calls have named.
    pub record StageAnswer (run : ℕ) (from : Device → Type 0) (old new : O) (pass : Pass) : Type 0 where
      pub by_files : AnswersTo run (o.opened old) pass
      pub results : o.honest new → HasResults pass (o.seen new).device
      pub reported : o.honest new → from (o.seen old).device → Report opening (o.opened new) pass (o.seen new).device
      pub found : o.honest new → from (o.seen old).device → OfSame o.ours (o.seen old).device (λ d. FindsBy (o.opened old) d pass)
      pub named : o.honest new → from (o.seen old).device → NamesBy opening (o.opened old) pass (o.seen old).device (o.seen new).device

    -- A stage of a pass for this run, which leads from one condition to another. After an error the run is still underway. It asks for what
    -- the plan calls for that was read, or for what one calls for that it writes.
    pub record Stage (run : ℕ) (reasons : Reasons) (from reaches : Device → Type 0) (old new : O) (result : Result Pass RunFault) : Type 0 where
      pub frame : Frame old new
      pub asked : Asks o.noted (read_back (plan_at (o.opened old))) (o.asked old) (o.asked new)
      pub answer : IfOk result (StageAnswer run from old new)
      pub part : RunPart reasons (o.opened new) (o.honest new) from (Underway opening) made_in (λ _. reaches) (o.seen old) (o.seen new) result

    -- A stage that may make a plan, by these options and with the marks that a generator gives from here on: marks may repeat too.
    pub record DrawnStage (run : ℕ) (options : Options) (stream drawn : Stream) (reasons : Reasons) (from reaches : Device → Type 0) (old new : O) (result : Result Pass RunFault) : Type 0 where
      pub stage : Stage run (or_repeats (HasRepeats opening (o.opened new) (o.honest new) (from (o.seen old).device) options stream) reasons) from reaches old new result
      pub runs : IfOk result (RunsBy (o.opened old) options stream)
      pub moved : Moves stream drawn

    -- one that begins where a pass for this run may, once the shelf was read
    abbrev pub ReadStage : (run : ℕ) → Options → (stream drawn : Stream) → Reasons → (reaches : Device → Type 0) → (old new : O) → Result Pass RunFault → Type 0
    ReadStage run options stream drawn reasons reaches old new result = DrawnStage run options stream drawn reasons (ReadPassStart opening (o.opened old) run options stream) reaches old new result

    -- ---- a plan

    -- one was made and written, and these messages of the world that both listings have shown were skipped
    pub record Proposed (options : Options) (stream : Stream) (old new : O) (unfit : List (Side × ℕ)) : Type 0 where
      pub going : IsGoing (o.opened new)
      pub log : log_at (o.opened new) ≡ []
      pub run : IsRun (o.opened old) options stream (plan_at (o.opened new)).steps unfit
      pub shown : IsShown (o.opened new) (world_shown (o.opened new))
      pub skipped : o.honest new → PlanStart opening (o.opened old) options stream (o.seen old).device → unfit ≡ all_unfit (scene_of (world_shown (o.opened new)) opening.options)

    -- its state is committed, and the files hold it; the run is over by that plan, if its steps were done
    pub record Concluded (is_resumed : Bool) (old new : O) : Type 0 where
      pub committed : AreCommitted (o.opened old) (o.opened new)
      pub held : o.honest new → IsHeld (o.opened new) (o.seen new).device
      pub ends : o.honest new → BeforeStep opening (o.opened old) is_resumed (o.seen old).device → EndsBy opening (plan_at (o.opened old)) (log_at (o.opened old)) (o.seen new).device
