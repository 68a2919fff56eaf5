use Rattle.std.proofs.Common.{◌<◌, ◌^◌, length, ap, arith, rules}
use Rattle.std.proofs.lemmas.Grind.{common_steps}
use Rattle.mailcore.specs.ContentLines.{text_line}
use Rattle.mailcore.proofs.ContentLemmas.{with_line_ends-content, length-content_lines, next_line_len}
use Rattle.mailcore.proofs.content.content_len.Goals as goal

pub overflow_add-len : goal.overflow_add-len
overflow_add-len c =
    let short : length c.args.message.now < 2 ^ 63 = search rules in
    let step = next_line_len c.args.end (text_line c.in-Some.line) _ _ c.in-Some.ensures.steps in
    omega (arith, step.0, c.loop-line.invariant.rest, length-content_lines c.args.end c.args.message.now)

pub overflow_add-len-then-line : goal.overflow_add-len-then-line
overflow_add-len-then-line c =
    let short : length c.args.message.now < 2 ^ 63 = search rules in
    let step = (next_line_len c.args.end (text_line c.in-Some.line) _ _ c.in-Some.ensures.steps).1 c.if-line.true in
    let end_len = ap length c.line_end_bytes-end_len.ensures in
    omega (arith, step, end_len, c.loop-line.invariant.rest, length-content_lines c.args.end c.args.message.now)

pub returns : goal.returns
returns c = grind (arith, common_steps, ap length (with_line_ends-content c.args.end c.args.message.now), c.loop-line.invariant.rest, c.in-None.ensures.steps)
