use Rattle.serve.proofs.Talking.{converses_none, consumes_kept, consumes_none, breaks_none, on_ok, on_err}
use Rattle.serve.proofs.stream.answer_next.Goals as goal

-- src/stream.rt:95:23
pub returns-in-Err-clause-ok : goal.returns-in-Err-clause-ok
returns-in-Err-clause-ok g c =
    on_ok c.after_fault.result
    (converses_none c.args.server.now (g.R.Read.remaining c.args.input.now) (g.R.Read.remaining c.read.new.self) (g.W.Write.contents c.args.output.now) c.requires
    (consumes_kept (g.R.Read.remaining c.args.input.now) (g.R.Read.remaining c.read.new.self) c.in-Err.ensures.bytes))

-- src/stream.rt:95:23
pub returns-in-Err-clause-err : goal.returns-in-Err-clause-err
returns-in-Err-clause-err g c =
    on_err c.after_fault.result
    (breaks_none c.args.server.now (g.R.Read.remaining c.args.input.now) (g.R.Read.remaining c.read.new.self) c.requires
    (consumes_kept (g.R.Read.remaining c.args.input.now) (g.R.Read.remaining c.read.new.self) c.in-Err.ensures.bytes))

-- src/stream.rt:98:9
pub returns-then-count-eq0-clause-ok : goal.returns-then-count-eq0-clause-ok
returns-then-count-eq0-clause-ok g c =
    converses_none c.args.server.now (g.R.Read.remaining c.args.input.now) (g.R.Read.remaining c.read.new.self) (g.W.Write.contents c.args.output.now) c.requires
    (consumes_none (g.R.Read.remaining c.args.input.now) (g.R.Read.remaining c.read.new.self) c.in-Ok.count c.read.new.buf c.if-count-eq0.true c.in-Ok.ensures.bytes.0)
