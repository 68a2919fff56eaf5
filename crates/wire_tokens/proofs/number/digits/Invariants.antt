use Rattle.std.proofs.Common.{◌≡◌, ◌≤◌, drop}
use Rattle.std.specs.Prelude.{IfSome}
use Rattle.wire_tokens.specs.Numbers.{greatest, digits_from, digits_at}
use Rattle.wire_tokens.proofs.number.digits.Given as goal

abbrev pub invariant-loop-i : goal.invariant-loop-i
invariant-loop-i l = record {
  reads : digits_from l.least greatest l.read (drop l.i l.bytes) ≡ digits_at l.least greatest l.bytes;
  least : IfSome l.read (λ n. l.least ≤ n);
}
