use Rattle.std.proofs.Common.{◌≡◌}
use Rattle.rules.proofs.FlagLemmas.{either_value, recorded_is}
use Rattle.rules.proofs.flag_rule.recorded_after.Goals as goal
use Rattle.rules.proofs.flag_rule.recorded_after.Goals.{then-pull, else-pull, then-push, else-push}

pulled : (c : goal.After-taken) → c.if-pull.pulled ≡ either_value c.args.pull c.args.far c.args.recorded
pulled c = elim c.if-pull.branch [ then-pull w ↦ rw (w.pulled-is, w.if-pull.true) | else-pull w ↦ rw (w.pulled-is, w.if-pull.false) ]

pushed : (c : goal.After-taken) → c.if-push.pushed ≡ either_value c.args.push c.args.near c.args.recorded
pushed c = elim c.if-push.branch [ then-push w ↦ rw (w.pushed-is, w.if-push.true) | else-push w ↦ rw (w.pushed-is, w.if-push.false) ]

pub returns : goal.returns
returns c = rw (c.taken.ensures, pulled c, pushed c) (recorded_is c.args.pull c.args.push c.args.far c.args.near c.args.recorded)
