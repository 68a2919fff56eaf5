use Rattle.run_states.proofs.GivenUp.{given_up_is_opening}
use Rattle.run_states.proofs.run_laws.given_up_begins_a_run.Goals as goal

pub returns : goal.returns
returns c = given_up_is_opening
