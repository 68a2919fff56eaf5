use Rattle.run_states.proofs.Runs.{done_is_opening, done_is_unplanned}
use Rattle.run_states.proofs.run_laws.done_begins_the_next_run.Goals as goal

pub returns : goal.returns
returns c = record { unplanned = done_is_unplanned; opening = done_is_opening }
