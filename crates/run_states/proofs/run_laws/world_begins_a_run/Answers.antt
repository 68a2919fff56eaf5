use Rattle.run_states.proofs.Beginnings.{others_keep_opening, world_is_unplanned}
use Rattle.run_states.proofs.run_laws.world_begins_a_run.Goals as goal

pub returns : goal.returns
returns c = record { unplanned = world_is_unplanned; others = others_keep_opening }
