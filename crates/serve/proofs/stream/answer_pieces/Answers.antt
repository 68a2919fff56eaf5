use Rattle.std.proofs.KnownBytes.{Keeps-refl}
use Rattle.serve.proofs.Talking.{converses_none, converses_join, consumes_kept, breaks_after, on_err}
use Rattle.serve.proofs.stream.answer_pieces.Goals as goal

pub loop-init : goal.loop-init
loop-init g c =
    converses_none c.args.server.now (g.R.Read.remaining c.args.input.now) (g.R.Read.remaining c.args.input.now) (g.W.Write.contents c.args.output.now) c.requires
    (consumes_kept (g.R.Read.remaining c.args.input.now) (g.R.Read.remaining c.args.input.now) (Keeps-refl (g.R.Read.remaining c.args.input.now)))

pub returns-in_err-answer_next-clause-err : goal.returns-in_err-answer_next-clause-err
returns-in_err-answer_next-clause-err g c =
    on_err c.from_residual.result
    (breaks_after c.args.server.now c.loop.server (g.R.Read.remaining c.args.input.now) (g.R.Read.remaining c.loop.input) (g.R.Read.remaining c.answer_next.new.input) (g.W.Write.contents c.args.output.now)
    (g.W.Write.contents c.loop.output) c.answer_next.new.server.server c.loop.invariant c.in_err-answer_next.ensures.err)

pub returns-in-Ends-clause-ok : goal.returns-in-Ends-clause-ok
returns-in-Ends-clause-ok g c =
    converses_join c.args.server.now c.loop.server c.answer_next.new.server (g.R.Read.remaining c.args.input.now) (g.R.Read.remaining c.loop.input) (g.R.Read.remaining c.answer_next.new.input)
    (g.W.Write.contents c.args.output.now) (g.W.Write.contents c.loop.output) (g.W.Write.contents c.answer_next.new.output) c.loop.invariant c.in_ok-answer_next.ensures.ok

pub loop-preserved : goal.loop-preserved
loop-preserved g c =
    converses_join c.args.server.now c.loop.server c.answer_next.new.server (g.R.Read.remaining c.args.input.now) (g.R.Read.remaining c.loop.input) (g.R.Read.remaining c.answer_next.new.input)
    (g.W.Write.contents c.args.output.now) (g.W.Write.contents c.loop.output) (g.W.Write.contents c.answer_next.new.output) c.loop.invariant c.in_ok-answer_next.ensures.ok
