use Rattle.law_outcome.proofs.Finished.{steps_are_alike, finished_is_alike, finished_among_others}
use Rattle.law_outcome.proofs.finished_run_is_alike.Goals as goal

pub returns-clause-lists : goal.returns-clause-lists
returns-clause-lists c = steps_are_alike

pub returns-clause-maps : goal.returns-clause-maps
returns-clause-maps c = finished_is_alike

pub returns-clause-among_others : goal.returns-clause-among_others
returns-clause-among_others c = finished_among_others
