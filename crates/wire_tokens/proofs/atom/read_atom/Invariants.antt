use Rattle.std.proofs.Common.{◌≡◌, ◌≤◌, true, take, drop}
use Rattle.std.specs.List.{list_all}
use Rattle.wire_reader.specs.Machine.{run, text_go, text_out}
use Rattle.wire_tokens.specs.Atoms.{is_atom_byte, atom_at}
use Rattle.wire_tokens.proofs.atom.read_atom.Given as goal

abbrev pub invariant-loop-i : goal.invariant-loop-i
invariant-loop-i l = record {
  reads : run is_atom_byte (text_go 255) text_out (take l.i l.bytes) (drop l.i l.bytes) ≡ atom_at l.bytes;
  each : list_all is_atom_byte (take l.i l.bytes) ≡ true;
  most : l.i ≤ 255;
}
