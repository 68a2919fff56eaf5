use Rattle.std.proofs.Common.{◌≡◌, ◌≤◌, true, take, drop}
use Rattle.std.specs.List.{list_all}
use Rattle.wire_reader.specs.Machine.{run, text_go, text_out}
use Rattle.wire_tokens.specs.Atoms.{is_tag_byte, tag_at}
use Rattle.wire_tokens.proofs.tag.read_tag.Given as goal

abbrev pub invariant-loop-i : goal.invariant-loop-i
invariant-loop-i l = record {
  reads : run is_tag_byte (text_go 32) text_out (take l.i l.bytes) (drop l.i l.bytes) ≡ tag_at l.bytes;
  each : list_all is_tag_byte (take l.i l.bytes) ≡ true;
  most : l.i ≤ 32;
}
