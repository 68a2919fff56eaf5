use Rattle.runner.proofs.run.work.Given as goal

abbrev pub ghost-resume : goal.ghost-resume
ghost-resume g a = g.opening

abbrev pub ghost-begin : goal.ghost-begin
ghost-begin g a = g.opening
