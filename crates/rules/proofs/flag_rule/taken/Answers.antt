use Rattle.rules.proofs.FlagLemmas.{taken_is}
use Rattle.rules.proofs.flag_rule.taken.Goals as goal

pub returns : goal.returns
returns c = rw (c.minus-3.ensures, c.union.ensures, c.minus.ensures, c.minus-2.ensures) (taken_is c.args.source c.args.target c.args.recorded)
