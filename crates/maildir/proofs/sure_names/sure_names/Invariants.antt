use Rattle.maildir.specs.DiskFolders.{Gained}
use Rattle.maildir.proofs.sure_names.sure_names.Given as goal

abbrev pub invariant-loop : goal.invariant-loop
invariant-loop g l = record { gained : Gained l.initial.disk l.disk }
