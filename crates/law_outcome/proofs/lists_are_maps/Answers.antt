use Rattle.law_outcome.proofs.Whole.{alike_by_lists, alike_under_admission}
use Rattle.law_outcome.proofs.Finished.{alike_in_order, alike_without_waiting}
use Rattle.law_outcome.proofs.lists_are_maps.Goals as goal

pub returns-clause-lists : goal.returns-clause-lists
returns-clause-lists c = alike_by_lists

pub returns-clause-admission : goal.returns-clause-admission
returns-clause-admission c = alike_under_admission

pub returns-clause-without_waiting : goal.returns-clause-without_waiting
returns-clause-without_waiting c = alike_without_waiting

pub returns-clause-in_order : goal.returns-clause-in_order
returns-clause-in_order c = alike_in_order
