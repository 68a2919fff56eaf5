use Rattle.channels.specs.Asked.{place_of}
use Rattle.mail_stores.proofs.as_stores.MailStoresStores.work_over.Given as goal

abbrev pub ghost-work_noted : goal.ghost-work_noted
ghost-work_noted g a = g.W.Work.asking a.work (place_of a.place)
