use Rattle.std.proofs.lemmas.Result.{err_from_is_err_and}
use Rattle.runner.proofs.KeptBoxes.{held_same}
use Rattle.runner.proofs.GivingUp.{err_holds, ready_after, still_here}
use Rattle.runner.proofs.PartCalls.{part_after}
use Rattle.runner.proofs.StepParts.{part_never}
use Rattle.runner.proofs.give_up.get_ready.Goals as goal

pub returns-in_err-open_both-clause-left : goal.returns-in_err-open_both-clause-left
returns-in_err-open_both-clause-left g c = err_holds c.from_residual.result _ (λ honest held.
    let kept = c.open_both.ensures.kept honest in
    still_here (g.O.Outside.opened c.args.outside.now) (g.O.Outside.seen c.open_both.new.outside).device c.requires.plan
    (held_same (g.O.Outside.opened c.args.outside.now) (g.O.Outside.seen c.args.outside.now).device (g.O.Outside.seen c.open_both.new.outside).device kept.1 held))

pub returns-in_err-open_both-clause-counted : goal.returns-in_err-open_both-clause-counted
returns-in_err-open_both-clause-counted g c =
    let e = err_from_is_err_and c.from_residual.result c.from_residual.ensures.1 in
    rw (e.1, e.2) c.in_err-open_both.ensures.counted

pub returns-clause-counted : goal.returns-clause-counted
returns-clause-counted g c =
    let s1 = g.O.Outside.seen c.open_both.new.outside in
    part_after _ _ _ _ _ _ _ _ _ s1 _ _ c.mend_plan.ensures.was_honest c.in_ok-open_both.ensures.counted (part_never _ _ _ _ _ _ _ _ _ c.mend_plan.ensures.counted)

pub returns-clause-opened : goal.returns-clause-opened
returns-clause-opened g c = ready_after (g.O.Outside.opened c.args.outside.now) (g.O.Outside.opened c.open_both.new.outside) (g.O.Outside.opened c.mend_plan.new.outside) c.mend_plan.result c.in_ok-open_both.ensures.opened c.mend_plan.ensures.opened
