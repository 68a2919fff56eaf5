use Rattle.channels.proofs.lent.settle_lent.Given as goal

abbrev pub ghost-settle : goal.ghost-settle
ghost-settle g a = g.opening
