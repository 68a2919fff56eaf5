use Rattle.run_trial.specs.Openings.{no_opening}
use Rattle.test_trials.proofs.wanting_play.settle.Given as goal

abbrev pub ghost-run_in_memory : goal.ghost-run_in_memory
ghost-run_in_memory a = no_opening a.trial.world.options

abbrev pub ghost-run_again : goal.ghost-run_again
ghost-run_again a = no_opening a.options
