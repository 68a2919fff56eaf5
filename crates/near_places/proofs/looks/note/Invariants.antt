use Rattle.near_places.proofs.looks.note.Given as goal

abbrev pub ghost-and : goal.ghost-and
ghost-and g a = g.this
