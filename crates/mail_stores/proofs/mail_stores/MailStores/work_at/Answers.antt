use Rattle.mail_stores.proofs.LoanLemmas.{none_kept}
use Rattle.mail_stores.proofs.mail_stores.MailStores.work_at.Goals as goal

pub returns-in-Ok-clause-lent : goal.returns-in-Ok-clause-lent
returns-in-Ok-clause-lent g c = c.in-Ok.ensures.lent

pub returns-in-Err-clause-lent : goal.returns-in-Err-clause-lent
returns-in-Err-clause-lent g c = none_kept _ _ c.in-Err.ensures.none
