use Rattle.run_trial.proofs.memory.run_again.Given as goal

abbrev pub ghost-settle_from : goal.ghost-settle_from
ghost-settle_from g a = g.opening
