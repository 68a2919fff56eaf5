use Rattle.channels.specs.Asked.{FoundNew, outcome_of_state, place_of}
use Rattle.mail_stores.proofs.as_stores.MailStoresStores.has_state.Given as goal

abbrev pub ghost-note_at : goal.ghost-note_at
ghost-note_at g a = FoundNew (place_of a._place) (outcome_of_state a._answer.now)
