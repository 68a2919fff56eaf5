use Rattle.std.proofs.Common.{◌≡◌, ◌+◌, ◌-◌, length, refl, arith}
use Rattle.mailcore.proofs.PatternRowLemmas.{end_first, end_more, end_all}
use Rattle.mailcore.proofs.mailbox_pattern.put_end.Goals as goal

pub loop-done-init : goal.loop-done-init
loop-done-init c = end_first c.args.pattern.now c.args.row.now c.requires

pub loop-done-preserved : goal.loop-done-preserved
loop-done-preserved c =
    let here = c.loop-done-test.true in
    let end : length c.args.pattern.now - 1 - c.loop-done.done + 1 + c.loop-done.done ≡ length c.args.pattern.now = omega arith in
    end_more c.args.pattern.now c.loop-done.done (c.loop-done.done + 1) (length c.args.pattern.now - 1 - c.loop-done.done) c.reaches_end.result c.loop-done.row
    c.loop-done.invariant end refl c.reaches_end.ensures

pub returns : goal.returns
returns c = end_all c.args.pattern.now c.loop-done.done c.loop-done.row c.loop-done.invariant c.loop-done-test.false
