use Rattle.runner.proofs.run.make_or_resume.Given as goal

abbrev pub ghost-skip : goal.ghost-skip
ghost-skip g a = g.opening

abbrev pub ghost-open_and_work : goal.ghost-open_and_work
ghost-open_and_work g a = g.opening
