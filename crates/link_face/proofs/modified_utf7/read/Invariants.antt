use Rattle.std.proofs.Common.{◌≡◌, [], drop, false}
use Rattle.link_face.specs.Names.{read}
use Rattle.link_face.specs.Reading.{name_with}
use Rattle.link_face.proofs.modified_utf7.read.Given as goal

abbrev pub invariant-loop-b : goal.invariant-loop-b
invariant-loop-b l = name_with l.reader (drop l.b-index l.near) ≡ read false [] l.near
