-- The generator of a trial stands before its first word.
use Rattle.std.proofs.Common.{Result, Ok, Err}
use Rattle.std.specs.Prelude.{IfErr}
use Rattle.rand_core.specs.Stream.{Stream}
use Rattle.run_trial.proofs.attempts.settle_trial.Goals as goal

-- where it stands at the end
with_end : {T E : Type 0} (after : Stream) (P : Stream → E → Type 0) (r : Result T E) → IfErr r (P after) → IfErr r (λ fault. (end : Stream) × P end fault)
with_end after P (Ok answer) k = tt
with_end after P (Err fault) k = (after, k)

pub returns-clause-done : goal.returns-clause-done
returns-clause-done g c = rw c.new.ensures at c.settle.ensures.done

pub returns-clause-left : goal.returns-clause-left
returns-clause-left g c = rw c.new.ensures at c.settle.ensures.left

pub returns-clause-caused : goal.returns-clause-caused
returns-clause-caused g c = with_end _ _ c.settle.result (rw c.new.ensures at c.settle.ensures.caused)
