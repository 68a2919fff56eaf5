use Rattle.std.proofs.Common.{◌≡◌, ◌≤◌, ◌-◌, length, drop}
use Rattle.wire_reader.specs.Lexical.{limit_from}
use Rattle.wire_reader.specs.declared.lexical.Phase.TheVariants.{Plain}
use Rattle.wire_reader.proofs.limit.limit_end.Given as goal

abbrev pub invariant-loop-count : goal.invariant-loop-count
invariant-loop-count l = record {
  within : l.done ≤ length l.bytes;
  fits : l.scanner.outside ≤ 65536;
  same : limit_from l.scanner.phase (65536 - l.scanner.outside) l.done (drop l.done l.bytes) ≡ limit_from Plain 65536 0 l.bytes;
}

abbrev pub decreases-loop-count : goal.decreases-loop-count
decreases-loop-count l = length l.bytes - l.done
