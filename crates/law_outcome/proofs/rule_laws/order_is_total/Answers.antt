use Rattle.law_outcome.proofs.Places.{in_order}
use Rattle.law_outcome.proofs.rule_laws.order_is_total.Goals as goal

pub returns-clause-total : goal.returns-clause-total
returns-clause-total c = in_order
