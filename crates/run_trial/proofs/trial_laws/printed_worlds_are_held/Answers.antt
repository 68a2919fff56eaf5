use Rattle.run_trial.proofs.PrintedLemmas.{printed_is_held}
use Rattle.run_trial.proofs.trial_laws.printed_worlds_are_held.Goals as goal

pub returns : goal.returns
returns c = printed_is_held
