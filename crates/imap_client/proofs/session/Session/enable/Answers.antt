use Rattle.std.proofs.Common.{◌≡◌, ℕ, ◌+◌, List, true, sym, ◌∙◌, ap, subst, Result, Ok, Err}
use Rattle.std.proofs.lemmas.Result.{err_from_is_err_and}
use Rattle.imap_replies.specs.declared.word.Status.TheVariants as statuses
use Rattle.imap_session.specs.Servers.{is_logged_in}
use Rattle.imap_session.specs.Lines.{reported_server}
use Rattle.imap_link.specs.declared.fault.FarFault.{FarFault}
use Rattle.imap_replies.specs.declared.word.Status.{Status}
use Rattle.imap_link.specs.Outcomes.{Outcome, Never}
use Rattle.imap_client.specs.Logins.{Remains}
use Rattle.imap_client.specs.States.{EndsSo}
use Rattle.imap_client.proofs.Changed.{outcome_err, state_of_parts}
use Rattle.imap_client.proofs.LoggingIn.{enable_answered, asked_ends}
use Rattle.imap_client.proofs.Transcribed.{unheard, answers_so, declines_so}
use Rattle.imap_client.specs.Tags.{tag_text}
use Rattle.imap_client.specs.Transcripts.{EndsBy, Hears, Answers, of_enable}
use Rattle.imap_session.specs.Visits.{Among}
use Rattle.imap_session.specs.Servers.{Condition}
use Rattle.imap_client.proofs.session.Session.enable.Goals as goal

pub returns-in_err-status-clause-heard : goal.returns-in_err-status-clause-heard
returns-in_err-status-clause-heard g c =
    let p = err_from_is_err_and c.from_residual.result c.from_residual.ensures.1 in
    let n = c.args.self.now.tags + 1 in
    let old = c.args.self.now.transcript in
    let new = c.ask_status.new.self.transcript in
    subst (λ (r : Result (Unit {0}) FarFault). EndsBy (of_enable n) r old new) (sym (p.1 ∙ ap Err p.2))
    (unheard (Unit {0}) (of_enable n) c.ask_status.new.self.wire.heard.read old new c.in_err-status.field-0.0 c.in_err-status.ensures.heard)

pub returns-in_default-clause-heard : goal.returns-in_default-clause-heard
returns-in_default-clause-heard g c =
    let e = c.in_ok-status.ensures in
    declines_so (c.args.self.now.tags + 1) (tag_text c.ask_status.new.self.tags) (ap tag_text e.asked.tags) c.in_ok-status.status c.ask_status.new.self.wire.heard.read e.answer c.args.self.now.transcript c.ask_status.new.self.transcript
    e.heard c.in_default.not-Ok

pub returns-in-Ok-clause-heard : goal.returns-in-Ok-clause-heard
returns-in-Ok-clause-heard g c =
    let n = c.args.self.now.tags + 1 in
    let e = c.in_ok-status.ensures in
    let old = c.args.self.now.transcript in
    subst (λ (t : List (List ℕ)). Hears (Answers n statuses.Ok) old t) (sym c.done.ensures.transcript)
    (answers_so n (tag_text c.ask_status.new.self.tags) (ap tag_text e.asked.tags) c.in_ok-status.status c.ask_status.new.self.wire.heard.read e.answer old c.ask_status.new.self.transcript e.heard statuses.Ok c.in-Ok.is)

pub returns-in_err-status-clause-ends : goal.returns-in_err-status-clause-ends
returns-in_err-status-clause-ends g c =
    let p = err_from_is_err_and c.from_residual.result c.from_residual.ensures.1 in
    let was = c.args.self.now in
    let now = c.ask_status.new.self in
    let old = state_of_parts was.is_ready was.tags (g.L.Link.stops was.wire.link) was.wire.heard.read in
    let new = state_of_parts now.is_ready now.tags (g.L.Link.stops now.wire.link) now.wire.heard.read in
    subst (λ (r : Result (Unit {0}) FarFault). EndsSo 1 old new r) (sym (p.1 ∙ ap Err p.2)) (asked_ends Status (Unit {0}) old new c.in_err-status.field-0.0 c.in_err-status.ensures.asked)

pub returns-in_err-status-clause-outcome : goal.returns-in_err-status-clause-outcome
returns-in_err-status-clause-outcome g c honest logged =
    let a = c.in_err-status.ensures.outcome honest in
    let still = ap (λ (c : Condition). is_logged_in c) a.visits.condition ∙ logged in
    record {
      mid = a.mid;
      visits = a.visits;
      then =
          let p = err_from_is_err_and c.from_residual.result c.from_residual.ensures.1 in
          let f = c.in_err-status.field-0.0 in
          let old = a.mid in
          let new = (reported_server (g.L.Link.line c.ask_status.new.self.wire.link)) in
          subst (λ (r : Result (Unit {0}) FarFault). Outcome (λ x. Remains) Never Remains r old new) (sym (p.1 ∙ ap Err p.2))
          (outcome_err Status (Unit {0}) (λ a s t. (a ≡ statuses.Ok) × Remains s t) (λ x. Remains) Never Remains old new f
          (enable_answered (c.args.self.now.tags + 1) old still (Err f) c.ask_status.new.self.wire.heard.read new a.then));
    }

pub returns-in_default-clause-outcome : goal.returns-in_default-clause-outcome
returns-in_default-clause-outcome g c honest logged =
    let a = c.in_ok-status.ensures.outcome honest in
    let still = ap (λ (c : Condition). is_logged_in c) a.visits.condition ∙ logged in
    record {
      mid = a.mid;
      visits = a.visits;
      then =
          let old = a.mid in
          let new = (reported_server (g.L.Link.line c.ask_status.new.self.wire.link)) in
          let reported = enable_answered (c.args.self.now.tags + 1) old still (Ok c.in_ok-status.status) c.ask_status.new.self.wire.heard.read new a.then in
          c.in_default.not-Ok reported.0;
    }

pub returns-in-Ok-clause-outcome : goal.returns-in-Ok-clause-outcome
returns-in-Ok-clause-outcome g c =
    let old = (reported_server (g.L.Link.line c.args.self.now.wire.link)) in
    subst (λ w. g.L.Link.honest w.link → is_logged_in old.condition ≡ true → Among g.L.Link.visitors (λ old new. Remains old new) old (reported_server (g.L.Link.line w.link))) (sym c.done.ensures.wire)
    (λ honest logged.
    let a = c.in_ok-status.ensures.outcome honest in
    let still = ap (λ (c : Condition). is_logged_in c) a.visits.condition ∙ logged in
    record {
      mid = a.mid;
      visits = a.visits;
      then =
          let reported = enable_answered (c.args.self.now.tags + 1) a.mid still (Ok c.in_ok-status.status) c.ask_status.new.self.wire.heard.read (reported_server (g.L.Link.line c.ask_status.new.self.wire.link)) a.then in
          reported.1;
    })
