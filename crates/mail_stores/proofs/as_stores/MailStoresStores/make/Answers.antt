use Rattle.std.proofs.Common.{refl}
use Rattle.mail_stores.proofs.LoanLemmas.{lends_none}
use Rattle.mail_stores.proofs.as_stores.MailStoresStores.make.Goals as goal

pub returns-clause-lent : goal.returns-clause-lent
returns-clause-lent g c = lends_none (λ stores. stores.past.loans) _ _ refl
