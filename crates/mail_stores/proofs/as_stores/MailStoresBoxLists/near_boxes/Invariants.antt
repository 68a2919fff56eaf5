use Rattle.channels.specs.Asked.{NearListed, names_of}
use Rattle.mail_stores.proofs.as_stores.MailStoresBoxLists.near_boxes.Given as goal

abbrev pub ghost-note : goal.ghost-note
ghost-note g a = NearListed a._of.now (names_of a._answer.now)
