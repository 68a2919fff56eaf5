use Rattle.channels.specs.Asked.{Made, outcome_of_making, place_of}
use Rattle.mail_stores.proofs.as_stores.MailStoresStores.make.Given as goal

abbrev pub ghost-note_at : goal.ghost-note_at
ghost-note_at g a = Made a._side (place_of a._place) (outcome_of_making a._answer.now)
