use Rattle.std.proofs.Common.{rules}
use Rattle.mailcore.specs.declared.side.Side.TheVariants.{Near}
use Rattle.runner.proofs.PartCalls.{part_after}
use Rattle.runner.proofs.Readings.{turned_open}
use Rattle.runner.proofs.Validities.{validities_joined}
use Rattle.runner.proofs.opening.clear.Goals as goal

pub admit-requires : goal.admit-requires
admit-requires g c κs within = (search rules, rw c.in_ok-empty.ensures.opened (turned_open _ (g.O.Outside.opened c.args.outside.now) c.requires.1.1 Near))

pub returns-clause-part : goal.returns-clause-part
returns-clause-part g c = part_after _ _ _ _ _ _ _ _ _ (g.O.Outside.seen c.empty.new.outside) _ _ c.admit.ensures.was_honest c.in_ok-empty.ensures.part c.admit.ensures.part

pub returns-clause-validities : goal.returns-clause-validities
returns-clause-validities g c = validities_joined _ _ _ _ _ c.admit.result c.admit.ensures.was_honest c.in_ok-empty.ensures.validities c.admit.ensures.validities
