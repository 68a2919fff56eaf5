use Rattle.std.proofs.Common.{◌≡◌, ◌≤◌, drop}
use Rattle.std.specs.Prelude.{IfSome}
use Rattle.wire_reader.specs.Literal.{length_step, length_at}
use Rattle.wire_reader.specs.Machine.{scan}
use Rattle.wire_reader.proofs.literal.length.Given as goal

abbrev pub invariant-loop-i : goal.invariant-loop-i
invariant-loop-i l = record {
  reads : scan (length_step l.side) l.read (drop l.i l.bytes) ≡ length_at l.side l.bytes;
  limit : IfSome l.read (λ p. p.0 ≤ 16777238);
}
