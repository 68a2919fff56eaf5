use Rattle.maildir.specs.Folders.{Lists, listed}
use Rattle.maildir.specs.Gains.{nobody}
use Rattle.maildir.specs.MemFolders.{seen_of}
use Rattle.maildir.proofs.AddedLemmas.{read_anew}
use Rattle.maildir.proofs.mem_folder.MemFolderFolder.names.Goals as goal

pub returns-clause-call : goal.returns-clause-call
returns-clause-call c = read_anew nobody (λ names. Lists (listed names)) (seen_of c.args.self.now) (seen_of c.read_names.new.self) c.read_names.result c.read_names.ensures
