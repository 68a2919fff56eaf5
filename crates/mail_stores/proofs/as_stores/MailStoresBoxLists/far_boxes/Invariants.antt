use Rattle.channels.specs.Asked.{FarListed, names_of}
use Rattle.mail_stores.proofs.as_stores.MailStoresBoxLists.far_boxes.Given as goal

abbrev pub ghost-note : goal.ghost-note
ghost-note g a = FarListed a._of.now (names_of a._answer.now)
