use Rattle.run_trial.proofs.ShelfLemmas.{shelf_holds}
use Rattle.run_trial.proofs.trial_laws.shelf_holds_its_state.Goals as goal

pub returns : goal.returns
returns c = shelf_holds
