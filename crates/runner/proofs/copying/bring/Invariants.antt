use Rattle.runner.proofs.copying.bring.Given as goal

abbrev pub ghost-copy : goal.ghost-copy
ghost-copy g a = g.opening

abbrev pub ghost-seek : goal.ghost-seek
ghost-seek g a = g.opening
