use Rattle.runner.proofs.run.skip.Given as goal

abbrev pub ghost-forget : goal.ghost-forget
ghost-forget g a = g.opening
