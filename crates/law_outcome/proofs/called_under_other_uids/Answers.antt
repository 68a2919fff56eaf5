use Rattle.law_outcome.proofs.CalledUnder.{called_sent}
use Rattle.law_outcome.proofs.Fates.{entries_after_same, highest_after_sent}
use Rattle.law_outcome.proofs.called_under_other_uids.Goals as goal

pub returns-clause-called : goal.returns-clause-called
returns-clause-called c = λ to s q k. called_sent to s k q

pub returns-clause-entries : goal.returns-clause-entries
returns-clause-entries c = λ to s k. entries_after_same to s k

pub returns-clause-highest : goal.returns-clause-highest
returns-clause-highest c = λ to s d k. highest_after_sent to s k d
