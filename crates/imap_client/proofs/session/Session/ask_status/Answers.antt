use Rattle.std.proofs.Common.{◌≡◌, false, sym, subst}
use Rattle.imap_commands.specs.declared.command.Request.{Request}
use Rattle.imap_session.specs.Ends.{is_logout}
use Rattle.imap_client.specs.Requests.{IsPlain}
use Rattle.imap_client.proofs.Asking.{asked_plain, asked_stays}
use Rattle.std.proofs.Common.{◌∙◌, ◌+◌, ap, inl, refl, Err}
use Rattle.std.proofs.lemmas.Result.{err_from_is_err_and}
use Rattle.imap_session.specs.Lines.{reported_server}
use Rattle.imap_session.specs.Visits.{Among}
use Rattle.imap_link.specs.declared.fault.FarFault.TheVariants as faults
use Rattle.imap_client.specs.Calls.{request_of}
use Rattle.imap_client.specs.Exchanged.{command_at, AnsweredSo}
use Rattle.imap_client.proofs.Visited.{unsent}
use Rattle.imap_client.proofs.session.Session.ask_status.Goals as goal

pub exchange-requires-clause-plain : goal.exchange-requires-clause-plain
exchange-requires-clause-plain g c = subst IsPlain (sym c.in_ok-request.ensures) (asked_plain c.args.call.now c.requires)

pub exchange-requires-clause-stays : goal.exchange-requires-clause-stays
exchange-requires-clause-stays g c = subst (λ (r : Request). is_logout r ≡ false) (sym c.in_ok-request.ensures) (asked_stays c.args.call.now)

pub returns-in_err-begin-clause-outcome : goal.returns-in_err-begin-clause-outcome
returns-in_err-begin-clause-outcome g c honest =
    let p = err_from_is_err_and c.from_residual.result c.from_residual.ensures.1 in
    subst (λ w. Among g.L.Link.visitors (AnsweredSo (command_at (c.args.self.now.tags + 1) (request_of c.args.call.now)) (λ reported. g.S.ReplySink.took c.args.sink.now reported c.args.sink.now) c.from_residual.result w.heard.read) (reported_server (g.L.Link.line c.args.self.now.wire.link)) (reported_server (g.L.Link.line w.link))) (sym (c.in_err-begin.ensures.same.0))
    (unsent g.L.Link.visitors (λ r. AnsweredSo (command_at (c.args.self.now.tags + 1) (request_of c.args.call.now)) (λ reported. g.S.ReplySink.took c.args.sink.now reported c.args.sink.now) r c.args.self.now.wire.heard.read) c.from_residual.result faults.Stopped (reported_server (g.L.Link.line c.args.self.now.wire.link)) (p.1 ∙ ap Err (p.2 ∙ c.in_err-begin.ensures.failed.0)) (inl refl))

pub returns-in_err-request-clause-outcome : goal.returns-in_err-request-clause-outcome
returns-in_err-request-clause-outcome g c honest =
    let p = err_from_is_err_and c.from_residual-in_err-request.result c.from_residual-in_err-request.ensures.1 in
    subst (λ w. Among g.L.Link.visitors (AnsweredSo (command_at (c.args.self.now.tags + 1) (request_of c.args.call.now)) (λ reported. g.S.ReplySink.took c.args.sink.now reported c.args.sink.now) c.from_residual-in_err-request.result w.heard.read) (reported_server (g.L.Link.line c.args.self.now.wire.link)) (reported_server (g.L.Link.line w.link))) (sym (c.in_ok-begin.ensures.same.0))
    (unsent g.L.Link.visitors (λ r. AnsweredSo (command_at (c.args.self.now.tags + 1) (request_of c.args.call.now)) (λ reported. g.S.ReplySink.took c.args.sink.now reported c.args.sink.now) r c.args.self.now.wire.heard.read) c.from_residual-in_err-request.result faults.NoMemory (reported_server (g.L.Link.line c.args.self.now.wire.link)) (p.1 ∙ ap Err p.2) (inl refl))
