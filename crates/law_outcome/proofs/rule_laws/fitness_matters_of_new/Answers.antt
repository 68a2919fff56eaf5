use Rattle.law_outcome.proofs.Fitness.{same_calls}
use Rattle.law_outcome.proofs.rule_laws.fitness_matters_of_new.Goals as goal

pub returns : goal.returns
returns c = same_calls
