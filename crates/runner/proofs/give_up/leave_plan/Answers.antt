use Rattle.std.proofs.Common.{◌∙◌, true}
use Rattle.std.proofs.lemmas.Result.{err_from_is_err_and}
use Rattle.runner.proofs.KeptBoxes.{boxes_next}
use Rattle.runner.proofs.GivingUp.{ready_going}
use Rattle.runner.proofs.GivenUpRead.{read_done, read_left, read_pending, ready_number}
use Rattle.runner.proofs.PartCalls.{left_after, left_reported, passed_after}
use Rattle.runner.proofs.StepParts.{steps_reported, unrefused_reported}
use Rattle.runner.proofs.Looking.{looks_none}
use Rattle.runner.proofs.give_up.leave_plan.Goals as goal

pub finish_log-requires : goal.finish_log-requires
finish_log-requires g c = let counted = c.in_ok-get_ready.ensures.counted in let is = c.in_ok-get_ready.ensures.opened in record { going = rw is.opened (ready_going is.far is.near (g.O.Outside.opened c.args.outside.now) c.requires.plan); whole = counted.is_whole }

pub returns-in_err-get_ready-clause-gives_up : goal.returns-in_err-get_ready-clause-gives_up
returns-in_err-get_ready-clause-gives_up g c = λ honest held.
    let e = err_from_is_err_and c.from_residual.result c.from_residual.ensures.1 in
    rw e.1 (read_pending g.O.Outside.ours g.O.Outside.alone (g.O.Outside.opened c.args.outside.now) (g.O.Outside.seen c.args.outside.now).device (g.O.Outside.seen c.get_ready.new.outside).device _
    (c.in_err-get_ready.ensures.left honest held))

pub returns-in_err-get_ready-clause-counted : goal.returns-in_err-get_ready-clause-counted
returns-in_err-get_ready-clause-counted g c =
    let e = err_from_is_err_and c.from_residual.result c.from_residual.ensures.1 in
    rw (e.1, e.2) (left_reported _ _ _ _ _ _ _ _ (unrefused_reported _ _ (λ step n. n)) c.in_err-get_ready.ensures.counted)

pub returns-in-Ok-clause-gives_up : goal.returns-in-Ok-clause-gives_up
returns-in-Ok-clause-gives_up g c = λ honest held.
    let opened = g.O.Outside.opened c.args.outside.now in
    let d = (g.O.Outside.seen c.args.outside.now).device in
    let m = (g.O.Outside.seen c.get_ready.new.outside).device in
    let last = (g.O.Outside.seen c.finish_log.new.outside).device in
    let h = c.finish_log.ensures.was_honest honest in
    let held_now = c.in_ok-get_ready.ensures.held h held in
    let is = c.in_ok-get_ready.ensures.opened in
    read_done g.O.Outside.ours g.O.Outside.alone is.far is.near opened d m last true (c.get_ready.ensures.boxes h) (c.in_ok-get_ready.ensures.same h) (c.finish_log.ensures.boxes honest)
    (rw is.opened at (c.in-Ok.ensures.gives_up honest held_now))

pub returns-in-Err-clause-gives_up : goal.returns-in-Err-clause-gives_up
returns-in-Err-clause-gives_up g c = λ honest held.
    let opened = g.O.Outside.opened c.args.outside.now in
    let d = (g.O.Outside.seen c.args.outside.now).device in
    let m = (g.O.Outside.seen c.get_ready.new.outside).device in
    let last = (g.O.Outside.seen c.finish_log.new.outside).device in
    let h = c.finish_log.ensures.was_honest honest in
    let held_now = c.in_ok-get_ready.ensures.held h held in
    let is = c.in_ok-get_ready.ensures.opened in
    read_left g.O.Outside.ours g.O.Outside.alone is.far is.near opened d m last c.in-Err.fault (c.get_ready.ensures.boxes h)
    (rw is.opened at (c.in-Err.ensures.gives_up honest held_now))

pub returns-in-Ok-clause-boxes : goal.returns-in-Ok-clause-boxes
returns-in-Ok-clause-boxes g c = λ honest.
    boxes_next g.O.Outside.ours g.O.Outside.alone _ (g.O.Outside.seen c.get_ready.new.outside).device _ (c.get_ready.ensures.boxes (c.finish_log.ensures.was_honest honest)) (c.finish_log.ensures.boxes honest)

pub returns-in-Err-clause-boxes : goal.returns-in-Err-clause-boxes
returns-in-Err-clause-boxes g c = λ honest.
    boxes_next g.O.Outside.ours g.O.Outside.alone _ (g.O.Outside.seen c.get_ready.new.outside).device _ (c.get_ready.ensures.boxes (c.finish_log.ensures.was_honest honest)) (c.finish_log.ensures.boxes honest)

pub returns-in-Ok-clause-counted : goal.returns-in-Ok-clause-counted
returns-in-Ok-clause-counted g c =
    let s1 = g.O.Outside.seen c.get_ready.new.outside in
    passed_after _ _ _ _ _ _ _ _ s1 _ c.finish_log.ensures.was_honest c.in_ok-get_ready.ensures.counted c.in-Ok.ensures.counted

pub returns-in-Err-clause-counted : goal.returns-in-Err-clause-counted
returns-in-Err-clause-counted g c =
    let s1 = g.O.Outside.seen c.get_ready.new.outside in
    let is = c.in_ok-get_ready.ensures.opened in
    let number = ready_number is.far is.near (g.O.Outside.opened c.args.outside.now) in
    left_after _ _ _ _ _ _ _ _ s1 _ c.finish_log.ensures.was_honest c.in_ok-get_ready.ensures.counted
    (left_reported _ _ _ _ _ _ _ _ (steps_reported _ _ (λ step k. k ∙ number)) (rw is.opened at c.in-Err.ensures.counted))

pub returns-in_err-get_ready-clause-asked : goal.returns-in_err-get_ready-clause-asked
returns-in_err-get_ready-clause-asked g c = looks_none g.O.Outside.noted _ _ c.get_ready.ensures.asked

pub returns-in-Ok-clause-asked : goal.returns-in-Ok-clause-asked
returns-in-Ok-clause-asked g c = rw c.get_ready.ensures.asked at c.finish_log.ensures.asked

pub returns-in-Err-clause-asked : goal.returns-in-Err-clause-asked
returns-in-Err-clause-asked g c = rw c.get_ready.ensures.asked at c.finish_log.ensures.asked
