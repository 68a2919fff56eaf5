use Rattle.law_outcome.proofs.Expunged.{none_deleted, was_there, no_copy}
use Rattle.law_outcome.proofs.rule_laws.expunge_reaches_old_messages.Goals as goal

pub returns-clause-none_is_left : goal.returns-clause-none_is_left
returns-clause-none_is_left c = none_deleted

pub returns-clause-was_there : goal.returns-clause-was_there
returns-clause-was_there c = was_there

pub returns-clause-no_copy : goal.returns-clause-no_copy
returns-clause-no_copy c = no_copy
