use Rattle.mail_stores.proofs.lend.note.Given as goal

abbrev pub ghost-and : goal.ghost-and
ghost-and g a = g.this
