use Rattle.run_states.proofs.Others.{begun_order, others_copied_next, others_left, others_spared, others_stay, over_in_order}
use Rattle.run_states.proofs.run_laws.others_are_left_to_the_next_run.Goals as goal

pub returns-clause-begun : goal.returns-clause-begun
returns-clause-begun c = begun_order

pub returns-clause-order : goal.returns-clause-order
returns-clause-order c = over_in_order

pub returns-clause-spared : goal.returns-clause-spared
returns-clause-spared c = others_spared

pub returns-clause-stay : goal.returns-clause-stay
returns-clause-stay c = others_stay

pub returns-clause-left : goal.returns-clause-left
returns-clause-left c = others_left

pub returns-clause-copied : goal.returns-clause-copied
returns-clause-copied c = others_copied_next
