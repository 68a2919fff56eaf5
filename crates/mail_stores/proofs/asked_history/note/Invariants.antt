use Rattle.mail_stores.proofs.asked_history.note.Given as goal

abbrev pub ghost-and : goal.ghost-and
ghost-and g a = g.this
