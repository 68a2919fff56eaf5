use Rattle.std.proofs.Common.{◌≡◌, take}
use Rattle.link_face.specs.Rows.{number_in}
use Rattle.link_face.proofs.token.number_of.Given as goal

abbrev pub invariant-loop-b : goal.invariant-loop-b
invariant-loop-b l = l.number ≡ number_in (take l.b-index l.word)
