use Rattle.run_states.proofs.Ends.{done_is_done}
use Rattle.run_states.proofs.done_is_alike.Goals as goal

pub returns : goal.returns
returns c = λ ours opening. done_is_done opening
