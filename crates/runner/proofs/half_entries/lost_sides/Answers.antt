use Rattle.std.proofs.Common.{false, refl, subst, Bool}
use Rattle.runner.specs.GivingUp.{RemovesSome, Nowhere}
use Rattle.runner.proofs.KeptBoxes.{boxes_none}
use Rattle.runner.proofs.HalfEntries.{loses_none}
use Rattle.runner.proofs.PartCalls.{passed_none}
use Rattle.runner.proofs.half_entries.lost_sides.Goals as goal

pub returns-else-has_removed_some-clause-lost : goal.returns-else-has_removed_some-clause-lost
returns-else-has_removed_some-clause-lost g c = λ honest.
    let opened = g.O.Outside.opened c.args.outside.now in
    let none : RemovesSome opened false = subst (λ (b : Bool). RemovesSome opened b) c.if-has_removed_some.false c.has_removed_some.ensures in
    rw c.none.ensures (loses_none g.O.Outside.ours g.O.Outside.alone opened (g.O.Outside.seen c.args.outside.now).device none)

pub returns-else-has_removed_some-clause-kept : goal.returns-else-has_removed_some-clause-kept
returns-else-has_removed_some-clause-kept g c = λ honest. (boxes_none g.O.Outside.ours g.O.Outside.alone (g.O.Outside.seen c.args.outside.now).device, refl)

pub returns-else-has_removed_some-clause-counted : goal.returns-else-has_removed_some-clause-counted
returns-else-has_removed_some-clause-counted g c = passed_none _ Nowhere Nowhere _ c.requires.whole (λ k. k)
