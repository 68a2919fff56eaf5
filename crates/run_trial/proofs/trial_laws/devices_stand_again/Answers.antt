use Rattle.run_trial.proofs.AgainLemmas.{stand_again}
use Rattle.run_trial.proofs.trial_laws.devices_stand_again.Goals as goal

pub returns : goal.returns
returns c = stand_again
