use Rattle.std.proofs.Common.{◌≡◌, true, take, drop}
use Rattle.std.specs.List.{list_all}
use Rattle.wire_reader.specs.Machine.{run}
use Rattle.wire_tokens.specs.Atoms.{is_atom_byte}
use Rattle.imap_replies.specs.Heads.{head_fits, head_go, head_of, head_at}
use Rattle.imap_replies.proofs.head.read_head.Given as goal

abbrev pub invariant-loop-i : goal.invariant-loop-i
invariant-loop-i l = record {
  reads : run is_atom_byte head_go head_of (take l.i l.bytes) (drop l.i l.bytes) ≡ head_at l.bytes;
  each : list_all is_atom_byte (take l.i l.bytes) ≡ true;
  fits : head_fits (take l.i l.bytes) ≡ true;
}
