use Rattle.serve.specs.Connections.{Converses}
use Rattle.serve.proofs.stream.answer_pieces.Given as goal

abbrev pub invariant-loop : goal.invariant-loop
invariant-loop g l =
    Converses l.initial.server (g.R.Read.remaining l.initial.input) (g.R.Read.remaining l.input) (g.W.Write.contents l.initial.output) (g.W.Write.contents l.output) l.server
