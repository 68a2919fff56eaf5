use Rattle.std.proofs.Common.{◌∙◌, ap, inl, refl, subst, sym, Err}
use Rattle.std.proofs.lemmas.Result.{err_from_is_err_and}
use Rattle.imap_session.specs.Lines.{reported_server}
use Rattle.imap_session.specs.Visits.{Among}
use Rattle.imap_link.specs.declared.fault.FarFault.TheVariants as faults
use Rattle.imap_link.specs.Outcomes.{Outcome, Never}
use Rattle.imap_client.specs.Leaving.{Leaves}
use Rattle.imap_client.proofs.Visited.{stopped_or, unsent}
use Rattle.imap_client.proofs.session.Session.log_out.Goals as goal

pub returns-in_err-begin-clause-outcome : goal.returns-in_err-begin-clause-outcome
returns-in_err-begin-clause-outcome g c honest =
    let p = err_from_is_err_and c.from_residual.result c.from_residual.ensures.1 in
    subst (λ w. Among g.L.Link.visitors (Outcome {T = Unit {0}} (λ x. Leaves) Never Leaves c.from_residual.result) (reported_server (g.L.Link.line c.args.self.now.wire.link)) (reported_server (g.L.Link.line w.link))) (sym (c.in_err-begin.ensures.same.0))
    (unsent g.L.Link.visitors (Outcome {T = Unit {0}} (λ x. Leaves) Never Leaves) c.from_residual.result faults.Stopped (reported_server (g.L.Link.line c.args.self.now.wire.link)) (p.1 ∙ ap Err (p.2 ∙ c.in_err-begin.ensures.failed.0)) (inl refl))

pub returns-in_err-command-clause-outcome : goal.returns-in_err-command-clause-outcome
returns-in_err-command-clause-outcome g c honest =
    let p = err_from_is_err_and c.from_residual-in_err-command.result c.from_residual-in_err-command.ensures.1 in
    subst (λ w. Among g.L.Link.visitors (Outcome {T = Unit {0}} (λ x. Leaves) Never Leaves c.from_residual-in_err-command.result) (reported_server (g.L.Link.line c.args.self.now.wire.link)) (reported_server (g.L.Link.line w.link))) (sym (c.in_err-command.ensures.same.0 ∙ c.in_ok-begin.ensures.same.0))
    (stopped_or g.L.Link.visitors (Outcome {T = Unit {0}} (λ x. Leaves) Never Leaves) c.from_residual-in_err-command.result c.in_err-command.field-0.0 (reported_server (g.L.Link.line c.args.self.now.wire.link)) (p.1 ∙ ap Err p.2) c.in_err-command.ensures.err (inl refl) (inl refl))
