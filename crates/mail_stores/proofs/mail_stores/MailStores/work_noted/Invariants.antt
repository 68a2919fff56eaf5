use Rattle.channels.specs.Asked.{outcome_by}
use Rattle.mail_stores.proofs.mail_stores.MailStores.work_noted.Given as goal

abbrev pub ghost-note : goal.ghost-note
ghost-note g a = g.asking (outcome_by g.W.Work.ends a._answer.now)
