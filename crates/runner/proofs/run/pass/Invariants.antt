use Rattle.runner.proofs.run.pass.Given as goal

abbrev pub ghost-recall : goal.ghost-recall
ghost-recall g a = g.opening

abbrev pub ghost-make_or_resume : goal.ghost-make_or_resume
ghost-make_or_resume g a = g.opening
