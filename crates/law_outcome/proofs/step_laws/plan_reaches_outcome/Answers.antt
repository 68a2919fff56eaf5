use Rattle.law_outcome.proofs.WholePlans.{plan_reaches}
use Rattle.law_outcome.proofs.Given.{each_given, reaches_store, copies_stay}
use Rattle.law_outcome.proofs.step_laws.plan_reaches_outcome.Goals as goal

pub returns-clause-messages : goal.returns-clause-messages
returns-clause-messages c = plan_reaches

pub returns-clause-given : goal.returns-clause-given
returns-clause-given c = each_given

pub returns-clause-in_turn : goal.returns-clause-in_turn
returns-clause-in_turn c = reaches_store

pub returns-clause-copies_stay : goal.returns-clause-copies_stay
returns-clause-copies_stay c = copies_stay
