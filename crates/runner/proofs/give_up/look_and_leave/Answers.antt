use Rattle.std.proofs.Common.{inl}
use Rattle.std.proofs.lemmas.Result.{err_from_is_err_and}
use Rattle.runner.proofs.KeptBoxes.{boxes_next, held_same}
use Rattle.runner.proofs.GivingUp.{err_holds, still_here}
use Rattle.runner.proofs.GivenUpRead.{done_looked, left_or_looked}
use Rattle.runner.proofs.PartCalls.{part_after}
use Rattle.runner.proofs.give_up.look_and_leave.Goals as goal

pub leave-requires : goal.leave-requires
leave-requires g c = record { plan = rw c.lost_sides.ensures.opened c.requires.plan; rising = c.in_ok-lost.ensures.rising }

pub returns-in_err-lost-clause-left : goal.returns-in_err-lost-clause-left
returns-in_err-lost-clause-left g c = err_holds c.from_residual.result _ (λ honest held.
    let kept = c.lost_sides.ensures.kept honest in
    inl (still_here (g.O.Outside.opened c.args.outside.now) (g.O.Outside.seen c.lost_sides.new.outside).device c.requires.plan
    (held_same (g.O.Outside.opened c.args.outside.now) (g.O.Outside.seen c.args.outside.now).device (g.O.Outside.seen c.lost_sides.new.outside).device kept.1 held)))

pub returns-in_err-lost-clause-boxes : goal.returns-in_err-lost-clause-boxes
returns-in_err-lost-clause-boxes g c = λ honest. (c.lost_sides.ensures.kept honest).0

pub returns-in_err-lost-clause-counted : goal.returns-in_err-lost-clause-counted
returns-in_err-lost-clause-counted g c =
    let e = err_from_is_err_and c.from_residual.result c.from_residual.ensures.1 in
    rw (e.1, e.2) c.in_err-lost.ensures.counted

pub returns-clause-done : goal.returns-clause-done
returns-clause-done g c = done_looked g.O.Outside.ours g.O.Outside.alone c.in_ok-lost.lost (g.O.Outside.opened c.args.outside.now) (g.O.Outside.opened c.lost_sides.new.outside)
    (g.O.Outside.seen c.args.outside.now).device (g.O.Outside.seen c.lost_sides.new.outside).device (g.O.Outside.seen c.leave.new.outside).device _ _
    c.lost_sides.ensures.opened c.leave.ensures.was_honest (λ h. let kept = c.lost_sides.ensures.kept h in kept.1) c.in_ok-lost.ensures.lost c.leave.result c.leave.ensures.done

pub returns-clause-left : goal.returns-clause-left
returns-clause-left g c = left_or_looked g.O.Outside.ours g.O.Outside.alone c.in_ok-lost.lost (g.O.Outside.opened c.args.outside.now) (g.O.Outside.opened c.lost_sides.new.outside)
    (g.O.Outside.seen c.args.outside.now).device (g.O.Outside.seen c.lost_sides.new.outside).device (g.O.Outside.seen c.leave.new.outside).device _ _
    c.lost_sides.ensures.opened c.leave.ensures.was_honest (λ h. let kept = c.lost_sides.ensures.kept h in kept.1) c.in_ok-lost.ensures.lost c.leave.result c.leave.ensures.left

pub returns-clause-boxes : goal.returns-clause-boxes
returns-clause-boxes g c = λ honest.
    let h = c.leave.ensures.was_honest honest in
    boxes_next g.O.Outside.ours g.O.Outside.alone _ (g.O.Outside.seen c.lost_sides.new.outside).device _ (c.lost_sides.ensures.kept h).0 (c.leave.ensures.boxes honest)

pub returns-clause-counted : goal.returns-clause-counted
returns-clause-counted g c =
    let s1 = g.O.Outside.seen c.lost_sides.new.outside in
    part_after _ _ _ _ _ _ _ _ _ s1 _ _ c.leave.ensures.was_honest c.in_ok-lost.ensures.counted c.leave.ensures.counted
