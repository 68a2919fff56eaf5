use Rattle.std.proofs.Common.{◌≡◌, drop, None}
use Rattle.link_face.specs.Names.{units_after}
use Rattle.link_face.specs.Reading.{units_with}
use Rattle.link_face.proofs.run.units_of.Given as goal

abbrev pub invariant-loop-octet : goal.invariant-loop-octet
invariant-loop-octet l = units_with l.units (drop l.octet-index l.octets) ≡ units_after None l.octets
