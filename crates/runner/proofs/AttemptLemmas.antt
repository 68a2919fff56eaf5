-- What an attempt says, of what its pass says.
use Rattle.std.proofs.Common.{◌+◌, ℕ, Option, Result, Ok, Err, IfOk}
use Rattle.rand_core.specs.Stream.{Stream}
use Rattle.rules.specs.declared.options.Options.{Options}
use Rattle.outside.specs.declared.outside.Outside.{Ghosts}
use Rattle.run_states.specs.Openings.{Opening}
use Rattle.runner.specs.declared.fault.RunFault.{RunFault}
use Rattle.runner.specs.declared.pass.Pass.{Pass}
use Rattle.runner.specs.Attempts.{AnswersAt, AttemptAt, AttemptStart}
use Rattle.runner.specs.AttemptStages.{AttemptAnswer}
use Rattle.runner.specs.Finding.{FindsAt}
use Rattle.runner.specs.Naming.{NamesAt}
use Rattle.runner.specs.Results.{HasResults, Report}

module _ {O : Type 0} (o : Ghosts O) (opening : Opening o.ours o.alone) (options : Options) (stream : Stream) (fixed : Option ℕ) (old new : O) where
  pub attempt_answer : (r : Result Pass RunFault) → IfOk r (λ pass. o.honest new → AttemptAt opening fixed (o.seen old).device → AnswersAt (opening.world.state.run + 1) options pass (o.seen old).device stream)
      → IfOk r (λ pass. o.honest new → HasResults pass (o.seen new).device) → IfOk r (λ pass. o.honest new → AttemptStart opening options stream fixed (o.seen old).device → Report opening (o.opened new) pass (o.seen new).device)
      → IfOk r (λ pass. o.honest new → AttemptStart opening options stream fixed (o.seen old).device → FindsAt o.ours (o.seen old).device pass)
      → IfOk r (λ pass. o.honest new → AttemptStart opening options stream fixed (o.seen old).device → NamesAt opening pass (o.seen old).device (o.seen new).device)
      → IfOk r (AttemptAnswer o opening options stream fixed old new)
  attempt_answer (Ok pass) by_files results reported found named = record { by_files = by_files; results = results; reported = reported; found = found; named = named }
  attempt_answer (Err f) by_files results reported found named = tt
