use Rattle.rules.specs.FlagRule.{with_deleted}
use Rattle.rules.proofs.flag_rule.with_deleted.Goals as goal

pub returns : goal.returns
unfolding with_deleted
returns c = rw (c.union.ensures, c.only.ensures)
