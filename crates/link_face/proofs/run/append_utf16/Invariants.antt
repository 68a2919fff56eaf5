use Rattle.std.proofs.Common.{◌≡◌, ◌++◌, drop}
use Rattle.std.specs.List.{flat_map}
use Rattle.link_face.specs.Names.{unit_octets, utf16_octets}
use Rattle.link_face.proofs.run.append_utf16.Given as goal

abbrev pub invariant-loop-unit : goal.invariant-loop-unit
invariant-loop-unit l = l.run.items ++ flat_map unit_octets (drop l.unit-index l.unit-items) ≡ l.fn.run.items ++ utf16_octets l.fn.c
