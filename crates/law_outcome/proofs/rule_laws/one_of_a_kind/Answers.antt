use Rattle.law_outcome.proofs.Places.{one_of_a_kind}
use Rattle.law_outcome.proofs.rule_laws.one_of_a_kind.Goals as goal

pub returns : goal.returns
returns c = one_of_a_kind
