use Rattle.sync_state.proofs.SecondVersion.{state_again, all_words}
use Rattle.sync_state.proofs.laws.texts_of_the_second_version.Goals as goal

pub returns-clause-states : goal.returns-clause-states
returns-clause-states c = state_again

pub returns-clause-plans : goal.returns-clause-plans
returns-clause-plans c = all_words
