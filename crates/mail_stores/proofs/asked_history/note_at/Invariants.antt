use Rattle.mail_stores.proofs.asked_history.note_at.Given as goal

abbrev pub ghost-and : goal.ghost-and
ghost-and g a = g.this
