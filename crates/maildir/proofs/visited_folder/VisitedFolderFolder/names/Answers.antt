use Rattle.std.proofs.Common.{subst}
use Rattle.device.specs.Calls.{Read}
use Rattle.maildir.specs.Folders.{Lists, listed}
use Rattle.mailcore.specs.Visitors.{others_but}
use Rattle.maildir.specs.MemFolders.{seen_of}
use Rattle.maildir.proofs.AddedLemmas.{read_anew}
use Rattle.maildir.proofs.visited_folder.VisitedFolderFolder.names.Goals as goal

pub returns-then-self-clause-call : goal.returns-then-self-clause-call
returns-then-self-clause-call g c =
    read_anew (others_but g.O.Others.ours) (λ names. Lists (listed names)) (seen_of c.args.self.now.folder) (seen_of c.read_names.new.self) c.read_names.result
    (subst (λ f. Read (Unit {0}) (λ names. Lists (listed names)) (seen_of f) (seen_of c.read_names.new.self) c.read_names.result) c.count.ensures.folder c.read_names.ensures)
