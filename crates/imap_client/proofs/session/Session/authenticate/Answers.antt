use Rattle.std.proofs.Common.{◌≡◌, ℕ, ◌+◌, List, true, sym, ◌∙◌, ap, subst, Result, Ok, Err}
use Rattle.std.proofs.lemmas.Result.{err_from_is_err_and}
use Rattle.imap_session.specs.Servers.{is_before_login}
use Rattle.imap_session.specs.Lines.{reported_server}
use Rattle.imap_link.specs.declared.fault.FarFault.{FarFault}
use Rattle.imap_link.specs.Outcomes.{Outcome}
use Rattle.imap_client.specs.Logins.{Authenticates, Rejects}
use Rattle.imap_client.proofs.Changed.{outcome_err}
use Rattle.imap_client.proofs.LoggingIn.{login_exchanged}
use Rattle.imap_client.proofs.Transcribed.{command_ends, answers_ok}
use Rattle.imap_client.specs.Transcripts.{EndsBy, Hears, Answers, of_login}
use Rattle.imap_replies.specs.declared.word.Status.TheVariants as statuses
use Rattle.imap_session.specs.Visits.{Among}
use Rattle.imap_session.specs.Servers.{Condition}
use Rattle.imap_client.proofs.session.Session.authenticate.Goals as goal

pub returns-in_err-ask-clause-heard : goal.returns-in_err-ask-clause-heard
returns-in_err-ask-clause-heard g c =
    let p = err_from_is_err_and c.from_residual.result c.from_residual.ensures.1 in
    let n = c.args.self.now.tags + 1 in
    let old = c.args.self.now.transcript in
    let new = c.ask.new.self.transcript in
    subst (λ (r : Result (Unit {0}) FarFault). EndsBy (of_login n) r old new) (sym (p.1 ∙ ap Err p.2))
    (command_ends n c.ask.new.self.wire.heard.read (Unit {0}) (of_login n) (λ b h. h) (λ b h. h) c.in_err-ask.field-0.0 old new c.in_err-ask.ensures.heard)

pub returns-clause-heard : goal.returns-clause-heard
returns-clause-heard g c =
    let n = c.args.self.now.tags + 1 in
    let old = c.args.self.now.transcript in
    subst (λ (t : List (List ℕ)). Hears (Answers n statuses.Ok) old t) (sym c.done.ensures.transcript)
    (answers_ok n c.ask.new.self.wire.heard.read old c.ask.new.self.transcript c.in_ok-ask.ensures.heard)

pub returns-in_err-ask-clause-outcome : goal.returns-in_err-ask-clause-outcome
returns-in_err-ask-clause-outcome g c honest before =
    let a = c.in_err-ask.ensures.outcome honest in
    let still = ap (λ (c : Condition). is_before_login c) a.visits.condition ∙ before in
    record {
      mid = a.mid;
      visits = a.visits;
      then =
          let p = err_from_is_err_and c.from_residual.result c.from_residual.ensures.1 in
          let f = c.in_err-ask.field-0.0 in
          let user = c.args.user.now in
          let password = c.args.password.now in
          let old = a.mid in
          let new = (reported_server (g.L.Link.line c.ask.new.self.wire.link)) in
          subst (λ (r : Result (Unit {0}) FarFault). Outcome (λ x. Authenticates user password) (Rejects user password) (Authenticates user password) r old new) (sym (p.1 ∙ ap Err p.2))
          (outcome_err (Unit {0}) (Unit {0}) (λ _. Authenticates user password) (λ x. Authenticates user password) (Rejects user password) (Authenticates user password) old new f
          (login_exchanged (c.args.self.now.tags + 1) user password old still (Err f) c.ask.new.self.wire.heard.read new a.then));
    }

pub returns-clause-outcome : goal.returns-clause-outcome
returns-clause-outcome g c =
    let user = c.args.user.now in
    let password = c.args.password.now in
    let old = (reported_server (g.L.Link.line c.args.self.now.wire.link)) in
    subst (λ w. g.L.Link.honest w.link → is_before_login old.condition ≡ true → Among g.L.Link.visitors (Authenticates user password) old (reported_server (g.L.Link.line w.link))) (sym c.done.ensures.wire)
    (λ honest before.
    let a = c.in_ok-ask.ensures.outcome honest in
    let still = ap (λ (c : Condition). is_before_login c) a.visits.condition ∙ before in
    record {
      mid = a.mid;
      visits = a.visits;
      then =
          login_exchanged (c.args.self.now.tags + 1) user password a.mid still (Ok tt) c.ask.new.self.wire.heard.read (reported_server (g.L.Link.line c.ask.new.self.wire.link)) a.then;
    })
