use Rattle.std.proofs.Common.{◌≡◌, ◌+◌, ◌-◌, length, refl, arith}
use Rattle.mailcore.proofs.PatternRowLemmas.{made_first, made_more, made_all}
use Rattle.mailcore.proofs.mailbox_pattern.put_before.Goals as goal

pub loop-done-init : goal.loop-done-init
loop-done-init c = λ cs is. made_first c.args.pattern.now c.args.c cs _ c.args.row.now is refl

pub loop-done-preserved : goal.loop-done-preserved
loop-done-preserved c =
    let here = c.loop-done-test.true in
    let end : length c.args.pattern.now - 1 - c.loop-done.done + 1 + c.loop-done.done ≡ length c.args.pattern.now = omega arith in
    λ cs is. made_more c.args.pattern.now c.args.c cs c.loop-done.done (c.loop-done.done + 1) (length c.args.pattern.now - 1 - c.loop-done.done) c.loop-done.after _ c.reaches.result c.loop-done.row
    (c.loop-done.invariant cs is) end refl refl c.reaches.ensures

pub returns : goal.returns
returns c = λ cs is. made_all c.args.pattern.now c.args.c cs c.loop-done.done c.loop-done.after c.loop-done.row (c.loop-done.invariant cs is) c.loop-done-test.false
