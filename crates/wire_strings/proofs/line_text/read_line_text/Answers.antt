use Rattle.wire_strings.proofs.TextParts.{line_closed}
use Rattle.wire_strings.proofs.line_text.read_line_text.Goals as goal

pub invariant_of-result : goal.invariant_of-result
invariant_of-result c = line_closed c.args.bytes.now c.in_ok-rest.rest.now c.loop-i.i c.loop-i-test.true c.if-b-eq13.true c.in_ok-rest.ensures c.loop-i.invariant
