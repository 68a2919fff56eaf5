use Rattle.std.proofs.Common.{IsSome, refl, sym, subst}
use Rattle.std.proofs.KnownBytes.{Keeps-refl}
use Rattle.imap_server.specs.Taking.{Host}
use Rattle.serve.proofs.Talking.{breaks_none, consumes_kept, on_err, on_ok_both, serves}
use Rattle.serve.proofs.stream.greet_and_answer.Goals as goal

-- src/stream.rt:57:5
pub returns-in_err-send-clause-err : goal.returns-in_err-send-clause-err
returns-in_err-send-clause-err g c =
    on_err c.from_residual.result
    (breaks_none c.args.server.now (g.R.Read.remaining c.args.input.now) (g.R.Read.remaining c.args.input.now) (subst (λ (h : Host). IsSome h.connection) (sym c.requires.new) refl)
    (consumes_kept (g.R.Read.remaining c.args.input.now) (g.R.Read.remaining c.args.input.now) (Keeps-refl (g.R.Read.remaining c.args.input.now))))

-- src/stream.rt:46:1
pub returns-clause-ok : goal.returns-clause-ok
returns-clause-ok g c =
    on_ok_both c.answer_pieces.result
    (serves c.args.server.now c.answer_pieces.new.server (g.R.Read.remaining c.args.input.now) (g.R.Read.remaining c.answer_pieces.new.input) (g.W.Write.contents c.args.output.now)
    (g.W.Write.contents c.send.new.output) (g.W.Write.contents c.answer_pieces.new.output) c.args.hello.now c.requires.new c.requires.greets c.in_ok-send.ensures)
    c.answer_pieces.ensures.ok c.answer_pieces.ensures.ended
