use Rattle.std.proofs.Common.{◌≡◌}
use Rattle.std.specs.Prelude.{fold}
use Rattle.maildir.specs.MemFolders.{seen_of, stored_in}
use Rattle.run_trial.specs.Folders.{put_message}
use Rattle.run_trial.proofs.folder.put_messages.Given as goal

abbrev pub invariant-loop-message : goal.invariant-loop-message
invariant-loop-message l = seen_of l.folder ≡ record (seen_of l.initial.folder) { stored = fold (put_message l.keywords) (stored_in l.initial.folder) l.yielded }
