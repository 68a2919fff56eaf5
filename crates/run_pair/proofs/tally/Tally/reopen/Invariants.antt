use Rattle.run_pair.proofs.tally.Tally.reopen.Given as goal

abbrev pub ghost-and : goal.ghost-and
ghost-and g a = g.device
