use Rattle.std.proofs.lemmas.Result.{err_from_is_err_and}
use Rattle.mailcore.specs.declared.side.Side.TheVariants.{Far}
use Rattle.runner.proofs.KeptBoxes.{all_next}
use Rattle.runner.proofs.GivingUp.{boxed_plan}
use Rattle.runner.proofs.PartCalls.{left_reported, part_after, part_reported}
use Rattle.runner.proofs.Validities.{both_boxed, both_opened, far_answers, far_reported, near_answers, near_reported}
use Rattle.runner.proofs.give_up.open_both.Goals as goal

pub open_same-requires-2 : goal.open_same-requires-2
open_same-requires-2 g c = let far = c.in_ok-open_same.ensures.opened in record { plan = rw far.opened (boxed_plan Far far.validity (g.O.Outside.opened c.args.outside.now) c.requires.plan) }

pub returns-in_err-open_same-clause-counted : goal.returns-in_err-open_same-clause-counted
returns-in_err-open_same-clause-counted g c =
    let e = err_from_is_err_and c.from_residual.result c.from_residual.ensures.1 in
    let s0 = g.O.Outside.seen c.args.outside.now in
    let s1 = g.O.Outside.seen c.open_same.new.outside in
    rw (e.1, e.2) (left_reported _ _ _ _ _ _ _ _ (record { changed = λ side t. (far_reported _ g.O.Outside.alone (g.O.Outside.opened c.args.outside.now) s0.device s1.device side t.0, far_answers (g.O.Outside.opened c.args.outside.now) _ side t.0.0 t.1); keywords = λ n. n; repeats = λ k. k; beyond = λ n. n; greatest = λ n. n; unread = λ e n. n; refused = λ step n. n }) c.in_err-open_same.ensures.counted)

pub returns-clause-counted : goal.returns-clause-counted
returns-clause-counted g c =
    let far = c.in_ok-open_same.ensures.opened in
    let s0 = g.O.Outside.seen c.args.outside.now in
    let s1 = g.O.Outside.seen c.open_same.new.outside in
    let s2 = g.O.Outside.seen c.open_same-2.new.outside in
    part_after _ _ _ _ _ _ _ _ _ s1 _ _ c.open_same-2.ensures.was_honest c.in_ok-open_same.ensures.counted
    (part_reported _ _ _ _ _ _ _ _ _ _ (record { changed = λ side t. (near_reported _ _ g.O.Outside.alone far.validity (g.O.Outside.opened c.args.outside.now) (g.O.Outside.opened c.open_same.new.outside) s0.device s1.device s2.device side c.open_same-2.ensures.was_honest far.opened c.in_ok-open_same.ensures.same t.0, near_answers (g.O.Outside.opened c.args.outside.now) (g.O.Outside.opened c.open_same.new.outside) _ side t.0.0 far t.1); keywords = λ n. n; repeats = λ k. k; beyond = λ n. n; greatest = λ n. n; unread = λ e n. n; refused = λ step n. n }) c.open_same-2.ensures.counted)

pub returns-clause-same : goal.returns-clause-same
returns-clause-same g c = let far = c.in_ok-open_same.ensures.opened in let s0 = g.O.Outside.seen c.args.outside.now in let s1 = g.O.Outside.seen c.open_same.new.outside in let s2 = g.O.Outside.seen c.open_same-2.new.outside in both_opened _ _ g.O.Outside.alone far.validity (g.O.Outside.opened c.args.outside.now) (g.O.Outside.opened c.open_same.new.outside) s0.device s1.device s2.device c.open_same-2.result c.open_same-2.ensures.was_honest far.opened c.in_ok-open_same.ensures.same c.open_same-2.ensures.same

pub returns-clause-kept : goal.returns-clause-kept
returns-clause-kept g c = λ honest. all_next g.O.Outside.ours g.O.Outside.alone _ (g.O.Outside.seen c.open_same.new.outside).device _ (c.open_same.ensures.kept (c.open_same-2.ensures.was_honest honest)) (c.open_same-2.ensures.kept honest)

pub returns-clause-opened : goal.returns-clause-opened
returns-clause-opened g c = both_boxed (g.O.Outside.opened c.args.outside.now) (g.O.Outside.opened c.open_same.new.outside) (g.O.Outside.opened c.open_same-2.new.outside) c.open_same-2.result c.in_ok-open_same.ensures.opened c.open_same-2.ensures.opened
