use Rattle.runner.proofs.settle.fix_run.Given as goal

abbrev pub ghost-next_run : goal.ghost-next_run
ghost-next_run g a = g.opening
