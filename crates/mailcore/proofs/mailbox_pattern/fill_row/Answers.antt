use Rattle.std.proofs.Common.{◌≡◌, ◌+◌, ◌-◌, ◌<◌, length, drop, arith}
use Rattle.mailcore.proofs.PatternRowLemmas.{row_first, row_more, row_of_all}
use Rattle.mailcore.proofs.mailbox_pattern.fill_row.Goals as goal

pub loop-done-init : goal.loop-done-init
loop-done-init c = λ j h. row_first c.args.pattern.now c.args.name.now j c.put_end.new.row (omega arith) c.put_end.ensures

pub loop-done-preserved : goal.loop-done-preserved
loop-done-preserved c = λ j h.
    let within : j < length c.args.name.now = omega arith in
    let at : length c.args.name.now - 1 - c.loop-done.done ≡ j = omega arith in
    row_more c.args.pattern.now c.args.name.now j (length c.args.name.now - 1 - c.loop-done.done) c.put_before.new.row within at
    (c.put_before.ensures (drop (j + 1) c.args.name.now) (c.loop-done.invariant (j + 1) (omega arith)))

pub returns : goal.returns
returns c =
    let here = c.loop-done-test.false in
    let until = c.loop-done.auto.done-end in
    row_of_all c.args.pattern.now c.args.name.now c.loop-done.row (c.loop-done.invariant 0 (omega arith))
