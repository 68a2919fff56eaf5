use Rattle.run_pair.proofs.listings.note_far.Given as goal

abbrev pub ghost-and : goal.ghost-and
ghost-and g a = g.device
