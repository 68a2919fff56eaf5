use Rattle.run_trial.specs.Openings.{no_opening}
use Rattle.run_trial.proofs.run.reported_alone.Given as goal

abbrev pub ghost-run_in_memory : goal.ghost-run_in_memory
ghost-run_in_memory a = no_opening a.trial.world.options
