use Rattle.run_trial.proofs.attempts.settle_trial.Given as goal

abbrev pub ghost-settle : goal.ghost-settle
ghost-settle g a = g.opening
