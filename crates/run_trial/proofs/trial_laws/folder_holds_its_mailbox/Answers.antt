use Rattle.run_trial.proofs.FolderLemmas.{folder_holds}
use Rattle.run_trial.proofs.trial_laws.folder_holds_its_mailbox.Goals as goal

pub returns : goal.returns
returns c = λ fresh keywords. folder_holds keywords fresh
