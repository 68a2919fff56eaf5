use Rattle.runner.proofs.run.propose.Given as goal

abbrev pub ghost-clear : goal.ghost-clear
ghost-clear g a = g.opening

abbrev pub ghost-list_both : goal.ghost-list_both
ghost-list_both g a = g.opening

abbrev pub ghost-write_plan : goal.ghost-write_plan
ghost-write_plan g a = g.opening
