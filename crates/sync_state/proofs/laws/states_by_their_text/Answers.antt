use Rattle.sync_state.proofs.KnownStates.{state_known}
use Rattle.sync_state.proofs.laws.states_by_their_text.Goals as goal

pub returns : goal.returns
returns c = state_known
