use Rattle.std.proofs.Common.{rules}
use Rattle.mailcore.specs.declared.side.Side.TheVariants.{Far}
use Rattle.std.proofs.lemmas.Result.{err_from_is_err_and}
use Rattle.runner.proofs.PartCalls.{left_reported, part_after, part_reported}
use Rattle.runner.proofs.Readings.{boxed_read}
use Rattle.runner.proofs.Validities.{both_boxed, both_opened, far_answers, far_reported, near_answers, near_reported}
use Rattle.runner.proofs.Finding.{same_joined}
use Rattle.runner.proofs.opening.open_boxes.Goals as goal

pub open_one-requires-2 : goal.open_one-requires-2
open_one-requires-2 g c κs within = let far = c.in_ok-open_one.ensures.opened in (search rules, rw far.opened (boxed_read Far far.validity (g.O.Outside.opened c.args.outside.now) c.requires.1))

pub returns-in_err-open_one-clause-part : goal.returns-in_err-open_one-clause-part
returns-in_err-open_one-clause-part g c =
    let e = err_from_is_err_and c.from_residual.result c.from_residual.ensures.1 in
    let s0 = g.O.Outside.seen c.args.outside.now in
    let s1 = g.O.Outside.seen c.open_one.new.outside in
    rw (e.1, e.2) (left_reported _ _ _ _ _ _ _ _ (record { changed = λ side t. (far_reported _ g.O.Outside.alone (g.O.Outside.opened c.args.outside.now) s0.device s1.device side t.0, far_answers (g.O.Outside.opened c.args.outside.now) _ side t.0.0 t.1); keywords = λ n. n; repeats = λ k. k; beyond = λ n. n; greatest = λ n. n; unread = λ e n. n; refused = λ step n. n }) c.in_err-open_one.ensures.part)

pub returns-clause-part : goal.returns-clause-part
returns-clause-part g c =
    let far = c.in_ok-open_one.ensures.opened in
    let s0 = g.O.Outside.seen c.args.outside.now in
    let s1 = g.O.Outside.seen c.open_one.new.outside in
    let s2 = g.O.Outside.seen c.open_one-2.new.outside in
    part_after _ _ _ _ _ _ _ _ _ s1 _ _ c.open_one-2.ensures.was_honest c.in_ok-open_one.ensures.part
    (part_reported _ _ _ _ _ _ _ _ _ _ (record { changed = λ side t. (near_reported _ _ g.O.Outside.alone far.validity (g.O.Outside.opened c.args.outside.now) (g.O.Outside.opened c.open_one.new.outside) s0.device s1.device s2.device side c.open_one-2.ensures.was_honest far.opened c.in_ok-open_one.ensures.kept t.0, near_answers (g.O.Outside.opened c.args.outside.now) (g.O.Outside.opened c.open_one.new.outside) _ side t.0.0 far t.1); keywords = λ n. n; repeats = λ k. k; beyond = λ n. n; greatest = λ n. n; unread = λ e n. n; refused = λ step n. n }) c.open_one-2.ensures.part)

pub returns-clause-kept : goal.returns-clause-kept
returns-clause-kept g c = let far = c.in_ok-open_one.ensures.opened in let s0 = g.O.Outside.seen c.args.outside.now in let s1 = g.O.Outside.seen c.open_one.new.outside in let s2 = g.O.Outside.seen c.open_one-2.new.outside in both_opened _ _ g.O.Outside.alone far.validity (g.O.Outside.opened c.args.outside.now) (g.O.Outside.opened c.open_one.new.outside) s0.device s1.device s2.device c.open_one-2.result c.open_one-2.ensures.was_honest far.opened c.in_ok-open_one.ensures.kept c.open_one-2.ensures.kept

pub returns-clause-same : goal.returns-clause-same
returns-clause-same g c = let s0 = g.O.Outside.seen c.args.outside.now in let s1 = g.O.Outside.seen c.open_one.new.outside in let s2 = g.O.Outside.seen c.open_one-2.new.outside in same_joined g.O.Outside.ours _ _ s0.device s1.device s2.device c.open_one-2.result c.open_one-2.ensures.was_honest c.in_ok-open_one.ensures.same c.open_one-2.ensures.same

pub returns-clause-opened : goal.returns-clause-opened
returns-clause-opened g c = both_boxed (g.O.Outside.opened c.args.outside.now) (g.O.Outside.opened c.open_one.new.outside) (g.O.Outside.opened c.open_one-2.new.outside) c.open_one-2.result c.in_ok-open_one.ensures.opened c.open_one-2.ensures.opened
