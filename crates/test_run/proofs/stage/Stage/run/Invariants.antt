use Rattle.run_trial.specs.Openings.{no_opening}
use Rattle.test_run.proofs.stage.Stage.run.Given as goal

abbrev pub ghost-settle_trial : goal.ghost-settle_trial
ghost-settle_trial a = no_opening a.options.now
