use Rattle.run_states.proofs.Among.{done_is_alike_among}
use Rattle.run_states.proofs.run_laws.done_is_alike_among_others.Goals as goal

pub returns : goal.returns
returns c = done_is_alike_among
