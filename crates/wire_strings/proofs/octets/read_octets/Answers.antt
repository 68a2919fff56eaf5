use Rattle.wire_strings.proofs.StringParts.{literal_octets}
use Rattle.wire_strings.proofs.octets.read_octets.Goals as goal

pub invariant_of-result : goal.invariant_of-result
invariant_of-result c = literal_octets c.args.side c.args.bytes.now c.in_ok-octets.octets.now c.in_ok-octets.rest.now c.in_ok-octets.ensures
