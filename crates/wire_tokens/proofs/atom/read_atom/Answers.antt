use Rattle.std.proofs.Common.{arith}
use Rattle.wire_tokens.specs.Atoms.{is_atom_byte}
use Rattle.wire_tokens.proofs.AtomParts.{taken_run}
use Rattle.wire_tokens.proofs.atom.read_atom.Goals as goal

pub invariant_of-result : goal.invariant_of-result
invariant_of-result c =
    taken_run is_atom_byte 255 c.loop-i.i c.args.bytes.now _ c.split_at.ensures.front c.if-i-eq0.false c.loop-i.invariant.most (omega arith) c.loop-i.invariant.each
