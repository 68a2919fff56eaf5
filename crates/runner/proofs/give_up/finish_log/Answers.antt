use Rattle.std.proofs.Common.{inl}
use Rattle.std.proofs.lemmas.Result.{err_from_is_err_and}
use Rattle.runner.proofs.KeptBoxes.{boxes_next}
use Rattle.runner.proofs.GivingUp.{err_then, leaves_noted, ok_then, untorn_plan}
use Rattle.runner.proofs.PartCalls.{part_after}
use Rattle.runner.proofs.StepParts.{part_never}
use Rattle.runner.proofs.give_up.finish_log.Goals as goal

pub look_and_leave-requires : goal.look_and_leave-requires
look_and_leave-requires g c = let counted = c.in_ok-note_copy.ensures.counted in record { plan = c.in_ok-note_copy.ensures.plan; boxes = c.in_ok-note_copy.ensures.open; whole = counted.is_whole }

pub returns-in_err-note_copy-clause-gives_up : goal.returns-in_err-note_copy-clause-gives_up
returns-in_err-note_copy-clause-gives_up g c = λ honest held.
    let e = err_from_is_err_and c.from_residual.result c.from_residual.ensures.1 in
    rw e.1 (inl (c.in_err-note_copy.ensures.left honest held))

pub returns-in_err-note_copy-clause-counted : goal.returns-in_err-note_copy-clause-counted
returns-in_err-note_copy-clause-counted g c =
    let e = err_from_is_err_and c.from_residual.result c.from_residual.ensures.1 in
    rw (e.1, e.2) c.in_err-note_copy.ensures.counted

pub returns-clause-gives_up : goal.returns-clause-gives_up
returns-clause-gives_up g c = λ honest held.
    let opened = g.O.Outside.opened c.args.outside.now in
    let now = g.O.Outside.opened c.note_copy.new.outside in
    let d = (g.O.Outside.seen c.args.outside.now).device in
    let m = (g.O.Outside.seen c.note_copy.new.outside).device in
    let h = c.look_and_leave.ensures.was_honest honest in
    let held_now = c.in_ok-note_copy.ensures.held h held in
    leaves_noted g.O.Outside.ours g.O.Outside.alone opened now d m (g.O.Outside.seen c.look_and_leave.new.outside).device c.look_and_leave.result (untorn_plan opened c.requires.going.untorn)
    (c.in_ok-note_copy.ensures.notes h) (c.note_copy.ensures.boxes h)
    (ok_then c.look_and_leave.result _ _ (λ k. k honest held_now) c.look_and_leave.ensures.done) (err_then c.look_and_leave.result _ _ (λ k. k honest held_now) c.look_and_leave.ensures.left)

pub returns-clause-boxes : goal.returns-clause-boxes
returns-clause-boxes g c = λ honest.
    boxes_next g.O.Outside.ours g.O.Outside.alone _ (g.O.Outside.seen c.note_copy.new.outside).device _ (c.note_copy.ensures.boxes (c.look_and_leave.ensures.was_honest honest)) (c.look_and_leave.ensures.boxes honest)

pub returns-clause-counted : goal.returns-clause-counted
returns-clause-counted g c =
    let s1 = g.O.Outside.seen c.note_copy.new.outside in
    part_after _ _ _ _ _ _ _ _ _ s1 _ _ c.look_and_leave.ensures.was_honest c.in_ok-note_copy.ensures.counted (part_never _ _ _ _ _ _ _ _ _ c.look_and_leave.ensures.counted)

pub returns-clause-asked : goal.returns-clause-asked
returns-clause-asked g c = rw c.look_and_leave.ensures.asked c.note_copy.ensures.asked
