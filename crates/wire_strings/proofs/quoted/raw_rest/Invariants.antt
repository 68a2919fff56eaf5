use Rattle.std.proofs.Common.{◌≡◌, take, drop}
use Rattle.wire_reader.specs.Machine.{scan}
use Rattle.wire_strings.specs.Quotes.{raw_step, raw_rest}
use Rattle.wire_strings.proofs.quoted.raw_rest.Given as goal

abbrev pub invariant-loop-i : goal.invariant-loop-i
invariant-loop-i l = scan raw_step (take l.i l.bytes, l.after_slash) (drop l.i l.bytes) ≡ raw_rest l.bytes
