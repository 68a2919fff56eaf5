use Rattle.std.proofs.Common.{◌≡◌}
use Rattle.std.specs.Prelude.{fold}
use Rattle.maildir.specs.MemFolders.{seen_of, stored_in}
use Rattle.run_trial.specs.Folders.{put_waiting}
use Rattle.run_trial.specs.Worlds.{waiting_of}
use Rattle.run_trial.proofs.folder.put_waiting.Given as goal

abbrev pub invariant-loop-file : goal.invariant-loop-file
invariant-loop-file l = seen_of l.folder ≡ record (seen_of l.initial.folder) { stored = fold (λ s f. put_waiting l.keywords s (waiting_of f)) (stored_in l.initial.folder) l.yielded }
