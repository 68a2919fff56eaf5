use Rattle.channels.proofs.LendLemmas.{lends_through}
use Rattle.mail_stores.specs.Loans.{HaveKept, lent_of}
use Rattle.mail_stores.proofs.as_stores.MailStoresStores.work_over.Goals as goal

pub returns-clause-lent : goal.returns-clause-lent
returns-clause-lent g c = lends_through (λ stores. stores.past.loans) HaveKept lent_of _ _ _ _ _ c.work_noted.ensures.lent
