use Rattle.law_outcome.proofs.OwnPlan.{opening_own, plan_step_own, not_found, found_after}
use Rattle.law_outcome.proofs.Expunging.{deleted_before}
use Rattle.law_outcome.proofs.step_laws.plan_among_others.Goals as goal

pub returns-clause-opening : goal.returns-clause-opening
returns-clause-opening c = opening_own

pub returns-clause-step : goal.returns-clause-step
returns-clause-step c = plan_step_own

pub returns-clause-not_found : goal.returns-clause-not_found
returns-clause-not_found c = not_found

pub returns-clause-found : goal.returns-clause-found
returns-clause-found c = found_after

pub returns-clause-deleted : goal.returns-clause-deleted
returns-clause-deleted c = deleted_before
