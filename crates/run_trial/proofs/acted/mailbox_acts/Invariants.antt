use Rattle.std.proofs.Common.{◌≡◌, map, take}
use Rattle.run_trial.specs.Acting.{act_of}
use Rattle.run_trial.proofs.acted.mailbox_acts.Given as goal

abbrev pub invariant-loop-act : goal.invariant-loop-act
invariant-loop-act l = l.list.items ≡ map act_of (take l.act-index l.acts)
