use Rattle.run_states.proofs.Arrived.{pending_arrives, underway_arrives}
use Rattle.run_states.proofs.Growth.{unplanned_arrives}
use Rattle.run_states.proofs.others_keep_underway.Goals as goal

pub returns : goal.returns
returns c = record { all = λ ours alone. underway_arrives; unplanned = λ ours alone. unplanned_arrives; pending = λ ours alone. pending_arrives }
