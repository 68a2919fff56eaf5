use Rattle.law_outcome.proofs.Settled.{settled, settled_in_any_order, settled_under}
use Rattle.law_outcome.proofs.rule_laws.run_settles.Goals as goal

pub returns-clause-settles : goal.returns-clause-settles
returns-clause-settles c = settled

pub returns-clause-in_any_order : goal.returns-clause-in_any_order
returns-clause-in_any_order c = settled_in_any_order

pub returns-clause-under_any_uids : goal.returns-clause-under_any_uids
returns-clause-under_any_uids c = settled_under
