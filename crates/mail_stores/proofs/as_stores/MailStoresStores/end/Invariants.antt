use Rattle.channels.specs.Asked.{Ended}
use Rattle.mail_stores.proofs.as_stores.MailStoresStores.end.Given as goal

abbrev pub ghost-note : goal.ghost-note
ghost-note g a = Ended
