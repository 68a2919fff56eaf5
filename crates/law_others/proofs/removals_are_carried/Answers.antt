use Rattle.law_others.proofs.Carrying.{both_gone, gone_carried}
use Rattle.law_others.proofs.removals_are_carried.Goals as goal

pub returns-clause-gone : goal.returns-clause-gone
returns-clause-gone c = gone_carried

pub returns-clause-both : goal.returns-clause-both
returns-clause-both c = both_gone
