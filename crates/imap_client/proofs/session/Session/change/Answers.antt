use Rattle.std.proofs.Common.{◌≡◌, Some, ◌+◌, sym, ◌∙◌, ap, subst, Result, Ok, Err}
use Rattle.std.proofs.lemmas.Result.{err_from_is_err_and}
use Rattle.mailcore.specs.Stores.{Store}
use Rattle.imap_session.specs.Mailboxes.{FarMailbox}
use Rattle.imap_session.specs.Servers.{selected}
use Rattle.imap_session.specs.Lines.{reported_server}
use Rattle.imap_link.specs.declared.fault.FarFault.{FarFault}
use Rattle.imap_link.specs.Outcomes.{Outcome, Never}
use Rattle.imap_client.specs.Boxes.{Becomes, Changing}
use Rattle.imap_client.proofs.Changed.{changes, outcome_err}
use Rattle.imap_session.specs.Visits.{Among}
use Rattle.imap_client.proofs.session.Session.change.Goals as goal

pub returns-in_err-ask-clause-outcome : goal.returns-in_err-ask-clause-outcome
returns-in_err-ask-clause-outcome g c honest =
    let a = c.in_err-ask.ensures.outcome honest in
    record {
      mid = a.mid;
      visits = a.visits;
      then = λ m is change so.
          let p = err_from_is_err_and c.from_residual.result c.from_residual.ensures.1 in
          let f = c.in_err-ask.field-0.0 in
          let old = a.mid in
          let new = (reported_server (g.L.Link.line c.ask.new.self.wire.link)) in
          subst (λ (r : Result (Unit {0}) FarFault). Outcome (λ x. Becomes change) Never (Becomes change) r old new) (sym (p.1 ∙ ap Err p.2))
          (outcome_err (Unit {0}) (Unit {0}) (λ _. Becomes change) (λ x. Becomes change) Never (Becomes change) old new f
          (changes (c.args.self.now.tags + 1) old m is c.args.call.now change so (Err f) _ new a.then));
    }

pub returns-clause-outcome : goal.returns-clause-outcome
returns-clause-outcome g c =
    let old = (reported_server (g.L.Link.line c.args.self.now.wire.link)) in
    subst (λ w. g.L.Link.honest w.link → Among g.L.Link.visitors (λ old new. (m : FarMailbox) → selected old ≡ Some m → (change : Store → Store) → Changing old c.args.call.now change → Becomes change old new) old (reported_server (g.L.Link.line w.link))) (sym c.done.ensures.wire)
    (λ honest.
    let a = c.in_ok-ask.ensures.outcome honest in
    record {
      mid = a.mid;
      visits = a.visits;
      then = λ m is change so.
          changes (c.args.self.now.tags + 1) a.mid m is c.args.call.now change so (Ok tt) _ (reported_server (g.L.Link.line c.ask.new.self.wire.link)) a.then;
    })
