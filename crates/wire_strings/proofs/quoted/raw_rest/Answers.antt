use Rattle.wire_strings.proofs.QuoteParts.{closed}
use Rattle.wire_strings.proofs.quoted.raw_rest.Goals as goal

pub invariant_of-result : goal.invariant_of-result
invariant_of-result c = closed c.args.bytes.now c.loop-i.i c.loop-i.after_slash c.loop-i-test.true c.if-after_slash.false c.if-b-eq34.true c.loop-i.invariant
