use Rattle.std.proofs.Common.{◌≡◌, map, take}
use Rattle.near_box.specs.Mailboxes.{waiting_of as waiting_in}
use Rattle.run_trial.specs.Worlds.{waiting_of}
use Rattle.run_trial.proofs.contents.waiting_in.Given as goal

abbrev pub invariant-loop-file : goal.invariant-loop-file
invariant-loop-file l =
    map waiting_of l.waiting.items ≡ map (waiting_in l.keywords) (map (λ file. file.now) (take l.file-index l.file-items))
