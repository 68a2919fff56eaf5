use Rattle.std.proofs.Common.{◌≡◌, take, drop}
use Rattle.wire_reader.specs.Machine.{scan}
use Rattle.wire_strings.specs.Texts.{code_step, code_text_at}
use Rattle.wire_strings.proofs.code_text.read_code_text.Given as goal

abbrev pub invariant-loop-i : goal.invariant-loop-i
invariant-loop-i l = scan code_step (take l.i l.bytes) (drop l.i l.bytes) ≡ code_text_at l.bytes
