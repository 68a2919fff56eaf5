use Rattle.law_outcome.proofs.Fold.{after-append, after-more, given-more, rises-more, fit-more}
use Rattle.law_outcome.proofs.step_laws.steps_follow.Goals as goal

pub returns-clause-append : goal.returns-clause-append
returns-clause-append c = after-append

pub returns-clause-more : goal.returns-clause-more
returns-clause-more c = after-more

pub returns-clause-given : goal.returns-clause-given
returns-clause-given c = given-more

pub returns-clause-rises : goal.returns-clause-rises
returns-clause-rises c = rises-more

pub returns-clause-fit : goal.returns-clause-fit
returns-clause-fit c = fit-more
