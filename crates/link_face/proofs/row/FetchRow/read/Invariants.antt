use Rattle.link_face.proofs.RowLemmas.{RowSoFar}
use Rattle.link_face.proofs.row.FetchRow.read.Given as goal

abbrev pub invariant-loop : goal.invariant-loop
invariant-loop l = RowSoFar l.bytes l.row l.rest
