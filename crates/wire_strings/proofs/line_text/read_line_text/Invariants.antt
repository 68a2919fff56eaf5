use Rattle.std.proofs.Common.{◌≡◌, false, take, drop}
use Rattle.wire_reader.specs.Machine.{scan, line_step}
use Rattle.wire_strings.specs.Texts.{is_text, last_text_at}
use Rattle.wire_strings.proofs.line_text.read_line_text.Given as goal

abbrev pub invariant-loop-i : goal.invariant-loop-i
invariant-loop-i l = scan (line_step is_text) (take l.i l.bytes, false) (drop l.i l.bytes) ≡ last_text_at l.bytes
