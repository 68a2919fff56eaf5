use Rattle.run_trial.proofs.devices.settle_from.Given as goal

abbrev pub ghost-settle_trial : goal.ghost-settle_trial
ghost-settle_trial g a = g.opening
