use Rattle.run_states.proofs.Stale.{none_is_stale}
use Rattle.run_states.proofs.nothing_is_stale.Goals as goal

pub returns : goal.returns
returns c = none_is_stale
