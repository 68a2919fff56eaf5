use Rattle.law_outcome.proofs.Unpaired.{unpaired}
use Rattle.law_outcome.proofs.rule_laws.new_is_unpaired.Goals as goal

pub returns-clause-called : goal.returns-clause-called
returns-clause-called c = unpaired
