use Rattle.run_trial.specs.Openings.{no_opening}
use Rattle.test_whole_runs.proofs.whole_run.settle_over.Given as goal

abbrev pub ghost-settle_trial : goal.ghost-settle_trial
ghost-settle_trial g a = no_opening a.options.now
