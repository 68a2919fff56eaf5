use Rattle.std.proofs.Common.{◌≡◌, ◌+◌, true, sym, ◌∙◌, ap, subst, Result, Ok, Err}
use Rattle.std.proofs.lemmas.Result.{err_from_is_err_and}
use Rattle.imap_session.specs.Servers.{is_logged_in}
use Rattle.imap_session.specs.Lines.{reported_server}
use Rattle.imap_link.specs.declared.fault.FarFault.{FarFault}
use Rattle.imap_link.specs.Outcomes.{Outcome}
use Rattle.imap_client.specs.Creations.{Makes, CannotMake}
use Rattle.imap_client.proofs.Changed.{outcome_err}
use Rattle.imap_client.proofs.Creating.{create_exchanged}
use Rattle.imap_session.specs.Visits.{Among}
use Rattle.imap_session.specs.Servers.{Condition}
use Rattle.imap_client.proofs.session.Session.create.Goals as goal

pub returns-in_err-ask-clause-outcome : goal.returns-in_err-ask-clause-outcome
returns-in_err-ask-clause-outcome g c honest logged =
    let a = c.in_err-ask.ensures.outcome honest in
    let still = ap (λ (c : Condition). is_logged_in c) a.visits.condition ∙ logged in
    record {
      mid = a.mid;
      visits = a.visits;
      then =
          let p = err_from_is_err_and c.from_residual.result c.from_residual.ensures.1 in
          let f = c.in_err-ask.field-0.0 in
          let name = c.args.name.now in
          let old = a.mid in
          let new = (reported_server (g.L.Link.line c.ask.new.self.wire.link)) in
          subst (λ (r : Result (Unit {0}) FarFault). Outcome (λ x. Makes name) (CannotMake name) (Makes name) r old new) (sym (p.1 ∙ ap Err p.2))
          (outcome_err (Unit {0}) (Unit {0}) (λ _. Makes name) (λ x. Makes name) (CannotMake name) (Makes name) old new f
          (create_exchanged (c.args.self.now.tags + 1) name old still (Err f) c.ask.new.self.wire.heard.read new a.then));
    }

pub returns-clause-outcome : goal.returns-clause-outcome
returns-clause-outcome g c =
    let name = c.args.name.now in
    let old = (reported_server (g.L.Link.line c.args.self.now.wire.link)) in
    subst (λ w. g.L.Link.honest w.link → is_logged_in old.condition ≡ true → Among g.L.Link.visitors (Makes name) old (reported_server (g.L.Link.line w.link))) (sym c.done.ensures.wire)
    (λ honest logged.
    let a = c.in_ok-ask.ensures.outcome honest in
    let still = ap (λ (c : Condition). is_logged_in c) a.visits.condition ∙ logged in
    record {
      mid = a.mid;
      visits = a.visits;
      then =
          create_exchanged (c.args.self.now.tags + 1) name a.mid still (Ok tt) c.ask.new.self.wire.heard.read (reported_server (g.L.Link.line c.ask.new.self.wire.link)) a.then;
    })
