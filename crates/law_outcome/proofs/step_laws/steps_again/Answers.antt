use Rattle.law_outcome.proofs.Again.{again, from_half, in_halves}
use Rattle.law_outcome.proofs.step_laws.steps_again.Goals as goal

pub returns-clause-again : goal.returns-clause-again
returns-clause-again c = again

pub returns-clause-half : goal.returns-clause-half
returns-clause-half c = from_half

pub returns-clause-halves : goal.returns-clause-halves
returns-clause-halves c = in_halves
