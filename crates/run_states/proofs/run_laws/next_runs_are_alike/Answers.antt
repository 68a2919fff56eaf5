use Rattle.run_states.proofs.Found.{next_is, next_is_no_more}
use Rattle.run_states.proofs.InOrder.{next_is_in_order}
use Rattle.run_states.proofs.run_laws.next_runs_are_alike.Goals as goal

pub returns : goal.returns
returns c = record { called = next_is; no_more = next_is_no_more; in_order = next_is_in_order }
