use Rattle.wire_tokens.specs.Writing.{Extended}
use Rattle.link_face.proofs.status.append_shown.Given as goal

abbrev pub invariant-loop-b : goal.invariant-loop-b
invariant-loop-b l = Extended l.fn.out.items l.out.items
