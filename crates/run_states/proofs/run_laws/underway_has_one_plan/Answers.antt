use Rattle.run_states.proofs.Runs.{one_plan, one_state, planned_or_not}
use Rattle.run_states.proofs.run_laws.underway_has_one_plan.Goals as goal

pub returns : goal.returns
returns c = record { plan = one_plan; state = one_state; either = planned_or_not }
