use Rattle.std.proofs.Common.{◌≡◌, ◌∙◌, inr, arith, ap, sym, subst, Result, Err}
use Rattle.std.proofs.lemmas.Result.{err_from_is_err_and}
use Rattle.imap_session.specs.Lines.{reported_server}
use Rattle.imap_session.specs.Ends.{ends_of}
use Rattle.imap_link.specs.ReplyBuffers.{Buffer}
use Rattle.imap_link.specs.declared.fault.FarFault.{FarFault}
use Rattle.imap_link.specs.declared.fault.FarFault.TheVariants.{Stopped, Protocol}
use Rattle.imap_link.specs.Faults.{IsStop}
use Rattle.imap_link.specs.Outcomes.{Outcome, Never}
use Rattle.imap_link.specs.Exchanges.{Restarts}
use Rattle.imap_link.proofs.Exits.{only_stop}
use Rattle.imap_link.proofs.Finished.{stop_outcome}
use Rattle.imap_link.proofs.Greeted.{greets_well, greets_so, greeted_idle, restarts, says_bye}
use Rattle.imap_link.proofs.wire.Wire.connect.Goals as goal

pub returns-in_err-kind-clause-outcome : goal.returns-in_err-kind-clause-outcome
returns-in_err-kind-clause-outcome g c honest =
    let p = err_from_is_err_and c.from_residual-in_err-kind.result c.from_residual-in_err-kind.ensures.1 in
    let f = c.in_err-kind.field-0.0 in
    let was = c.in_err-kind.ensures.was_honest honest in
    let old = g.L.Link.line c.args.self.now.link in
    let mid = g.L.Link.line c.reconnect.new.self in
    let new = g.L.Link.line c.hear.new.self.link in
    let starts = c.in_ok-reconnect.ensures.ok was in
    let stop = only_stop f _ (greets_well old mid starts c.new.result.unread (ap (λ (b : Buffer). b.unread) c.new.ensures)) (c.in_err-kind.ensures.fault honest) in
    subst (λ (r : Result (Unit {0}) FarFault). Outcome (λ _. Restarts) Never Restarts r (reported_server old) (reported_server new)) (sym p.1)
    (stop_outcome {T = Unit {0}} (λ _. Restarts) Never Restarts p.0 (reported_server old) (reported_server new) (subst IsStop (sym p.2) stop) (inr (restarts old mid starts new.end.server (c.in_err-kind.ensures.quiet honest))))

pub returns-in-Hello-clause-idle : goal.returns-in-Hello-clause-idle
returns-in-Hello-clause-idle g c honest =
    greeted_idle (g.L.Link.line c.args.self.now.link) (g.L.Link.line c.reconnect.new.self) (c.in_ok-reconnect.ensures.ok (c.in_ok-kind.ensures.was_honest honest)) c.new.result.unread (ap (λ (b : Buffer). b.unread) c.new.ensures)
    (ends_of (g.L.Link.line c.hear.new.self.link) c.hear.new.self.heard.unread) c.in_ok-kind.field-0-2 c.new.result.read c.hear.new.self.heard.read (g.L.Link.honest c.hear.new.self.link) c.in_ok-kind.ensures.heard.whole honest

pub returns-in-Bye-clause-stopped : goal.returns-in-Bye-clause-stopped
returns-in-Bye-clause-stopped g c stopped =
    inr (says_bye c.args.tag.now c.in_ok-kind.field-0-2 _ c.new.result.read c.hear.new.self.heard.read c.in_ok-kind.ensures.heard.whole (ap (λ (b : Buffer). b.read) c.new.ensures) (c.in_ok-kind.ensures.heard.is ∙ c.in-Bye.is))

apart : (let r : Result (Unit {0}) FarFault = Err Protocol in r) ≡ Err Stopped → ⊥
apart e = cc

pub returns-in_default : goal.returns-in_default
returns-in_default g c = record {
  was_honest = λ h. c.in_ok-reconnect.ensures.was_honest (c.in_ok-kind.ensures.was_honest h);
  counts = omega (arith, c.in_ok-kind.ensures.steady, c.in_ok-reconnect.ensures.steady);
  steady = tt;
  outcome = λ honest.
      absurd (c.in_default.not-Hello
      (greets_so (g.L.Link.line c.args.self.now.link) (g.L.Link.line c.reconnect.new.self) (c.in_ok-reconnect.ensures.ok (c.in_ok-kind.ensures.was_honest honest)) c.new.result.unread (ap (λ (b : Buffer). b.unread) c.new.ensures)
      (ends_of (g.L.Link.line c.hear.new.self.link) c.hear.new.self.heard.unread) c.in_ok-kind.field-0-2 c.new.result.read c.hear.new.self.heard.read (g.L.Link.honest c.hear.new.self.link) c.in_ok-kind.ensures.heard.whole honest
      c.args.tag.now c.in_ok-kind.kind c.in_ok-kind.ensures.heard.is));
  idle = tt;
  known = tt;
  stopped = λ e. absurd (apart e);
}
