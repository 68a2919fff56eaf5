use Rattle.wire_strings.proofs.TextParts.{code_closed}
use Rattle.wire_strings.proofs.code_text.read_code_text.Goals as goal

pub invariant_of-result : goal.invariant_of-result
invariant_of-result c = code_closed c.args.bytes.now c.loop-i.i c.loop-i-test.true c.if-b-eq93.true c.loop-i.invariant
