use Rattle.link_face.proofs.TokenLemmas.{ValueSoFar}
use Rattle.link_face.proofs.token.read_value.Given as goal

abbrev pub invariant-loop : goal.invariant-loop
invariant-loop l = ValueSoFar l.bytes l.depth l.rest
