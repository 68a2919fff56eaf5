use Rattle.law_outcome.proofs.Among.{unseen, among, more_among}
use Rattle.law_outcome.proofs.step_laws.steps_among_others.Goals as goal

pub returns-clause-unseen : goal.returns-clause-unseen
returns-clause-unseen c = unseen

pub returns-clause-step : goal.returns-clause-step
returns-clause-step c = among

pub returns-clause-more : goal.returns-clause-more
returns-clause-more c = more_among
