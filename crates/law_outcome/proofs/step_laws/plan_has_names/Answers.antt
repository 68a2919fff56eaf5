use Rattle.law_outcome.proofs.Within.{plan_within}
use Rattle.law_outcome.proofs.step_laws.plan_has_names.Goals as goal

pub returns : goal.returns
returns c = plan_within
