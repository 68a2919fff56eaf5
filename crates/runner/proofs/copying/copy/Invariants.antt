use Rattle.runner.proofs.copying.copy.Given as goal

abbrev pub ghost-find_copy : goal.ghost-find_copy
ghost-find_copy g a = g.opening
