-- What one of several attempts at a run says.
use Rattle.std.specs.Prelude.{◌≡◌, ◌+◌, ◌^◌, ℕ, Option, None, Result, IfOk}
use Rattle.rand_core.specs.Stream.{Stream}
use Rattle.rules.specs.declared.options.Options.{Options}
use Rattle.outside.specs.declared.outside.Outside.{Ghosts}
use Rattle.outside.specs.Opened.{IsRead}
use Rattle.run_states.specs.Conditions.{IsOver}
use Rattle.run_states.specs.Openings.{Opening}
use Rattle.runner.specs.declared.fault.RunFault.{RunFault}
use Rattle.runner.specs.declared.pass.Pass.{Pass}
use Rattle.runner.specs.Answers.{HasRepeats, Moves, OfFiles, made_in}
use Rattle.runner.specs.Attempts.{AnswersAt, AttemptAt, AttemptStart, HasNoNext, IsReached}
use Rattle.runner.specs.ChangedMaps.{ReportsOtherMap}
use Rattle.runner.specs.Faults.{Reasons, ReportsLastRun, ReportsUnread, because, or_beyond, or_greatest, or_keywords, or_unread}
use Rattle.runner.specs.Finding.{FindsAt}
use Rattle.runner.specs.Naming.{NamesAt}
use Rattle.runner.specs.Parts.{IsStuck, RunPart}
use Rattle.runner.specs.PassStages.{Frame}
use Rattle.runner.specs.Results.{HasResults, Report}
use Rattle.runner.specs.Validities.{AnswersChanged, ReportsChanged}

module _ {O : Type 0} (o : Ghosts O) (opening : Opening o.ours o.alone) where
  -- What is said of an answer, by the files that the attempt found. If it began with the run still to do: the report, which copies were
  -- found, and what calls have named.
  pub record AttemptAnswer (options : Options) (stream : Stream) (fixed : Option ℕ) (old new : O) (pass : Pass) : Type 0 where
    pub by_files : o.honest new → AttemptAt opening fixed (o.seen old).device → AnswersAt (opening.world.state.run + 1) options pass (o.seen old).device stream
    pub results : o.honest new → HasResults pass (o.seen new).device
    pub reported : o.honest new → AttemptStart opening options stream fixed (o.seen old).device → Report opening (o.opened new) pass (o.seen new).device
    pub found : o.honest new → AttemptStart opening options stream fixed (o.seen old).device → FindsAt o.ours (o.seen old).device pass
    pub named : o.honest new → AttemptStart opening options stream fixed (o.seen old).device → NamesAt opening pass (o.seen old).device (o.seen new).device

  -- The run's number: it is never beyond the next one, and none is fixed after the greatest, of which the attempt reports.
  pub record FixesRun (fixed now : Option ℕ) (old new : O) (result : Result Pass RunFault) : Type 0 where
    pub reached : o.honest new → IsReached fixed (o.seen old).device.files → IsReached now (o.seen new).device.files
    pub greatest : fixed ≡ None → HasNoNext (o.honest new) o.alone (o.seen old).device (o.seen new).device result
    pub unfixed : fixed ≡ None → OfFiles (o.honest new) (o.seen old).device (λ s p. s.run + 1 ≡ 2 ^ 64 → now ≡ None)

  -- why an attempt may report a fault: as a pass may, or since no run comes after the state's
  abbrev pub attempt_reasons : Options → Stream → (fixed : Option ℕ) → (old new : O) → Reasons
  attempt_reasons options stream fixed old new =
      let h = o.honest new in
      let now = o.opened new in
      let d = (o.seen old).device in
      let d' = (o.seen new).device in
      or_unread (ReportsUnread h d') (or_greatest (ReportsLastRun now h d') (or_beyond (IsRead now × (h → IsReached fixed d.files → ⊥))
      (or_keywords (ReportsOtherMap now h o.alone options.keywords d d') (because (λ side. ReportsChanged h o.alone d d' side × AnswersChanged now side) (HasRepeats opening now h (AttemptStart opening options stream fixed d) options stream)))))

  -- An attempt, between two numbers of the run, where one is fixed, and two places of the generator. If it succeeds, the run is over. After
  -- an error it is still to do. On an outside that had failed before, it stops.
  pub record Attempt (options : Options) (stream drawn : Stream) (fixed now : Option ℕ) (old new : O) (result : Result Pass RunFault) : Type 0 where
    pub frame : Frame o old new
    pub answer : IfOk result (AttemptAnswer options stream fixed old new)
    pub number : FixesRun fixed now old new result
    pub moved : Moves stream drawn
    pub stuck : IsStuck (o.seen old) (o.seen new) result
    pub part : RunPart (attempt_reasons options stream fixed old new) (o.opened new) (o.honest new) (AttemptStart opening options stream fixed) (AttemptStart opening options drawn now) made_in (λ _. IsOver opening) (o.seen old) (o.seen new) result
