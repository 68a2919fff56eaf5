use Rattle.std.proofs.Common.{◌≡◌, ◌+◌, ◌++◌, ◌∷◌, [], true, sym, ◌∙◌, ap, subst, Ok, Err}
use Rattle.std.proofs.lemmas.Result.{err_from_is_err_and}
use Rattle.imap_replies.specs.declared.word.Status.TheVariants as statuses
use Rattle.imap_session.specs.Answering.{done}
use Rattle.imap_session.specs.Servers.{is_logged_in}
use Rattle.imap_session.specs.Lines.{reported_server}
use Rattle.imap_client.specs.Tags.{tag_text}
use Rattle.imap_answers.specs.MailboxNames.{ReportsNames}
use Rattle.imap_client.proofs.Changed.{state_of_parts}
use Rattle.imap_client.proofs.Naming.{reported_first, names_exchanged, names_reported, not_answered, not_read, not_read_ends}
use Rattle.imap_client.proofs.Selecting.{speaks_of}
use Rattle.imap_session.specs.Visits.{Among}
use Rattle.imap_session.specs.Servers.{Condition}
use Rattle.imap_client.proofs.session.Session.list.Goals as goal

pub names-requires : goal.names-requires
names-requires g c = speaks_of (tag_text c.ask.new.self.tags) statuses.Ok _ c.in_ok-ask.ensures.answer

pub returns-in_err-ask-clause-outcome : goal.returns-in_err-ask-clause-outcome
returns-in_err-ask-clause-outcome g c honest logged =
    let a = c.in_err-ask.ensures.outcome honest in
    let still = ap (λ (c : Condition). is_logged_in c) a.visits.condition ∙ logged in
    record {
      mid = a.mid;
      visits = a.visits;
      then =
          let p = err_from_is_err_and c.from_residual.result c.from_residual.ensures.1 in
          let n = c.args.self.now.tags + 1 in
          let f = c.in_err-ask.field-0.0 in
          let old = a.mid in
          let new = (reported_server (g.L.Link.line c.ask.new.self.wire.link)) in
          let heard = c.ask.new.self.wire.heard.read in
          not_answered _ c.from_residual.result (λ names. names.items) old new f (reported_first old ++ done (tag_text n) ∷ []) heard (p.1 ∙ ap Err p.2)
          (names_exchanged n old still (Err f) heard new a.then);
    }

pub returns-in_err-names-clause-ends : goal.returns-in_err-names-clause-ends
returns-in_err-names-clause-ends g c =
    let p = err_from_is_err_and c.from_residual-in_err-names.result c.from_residual-in_err-names.ensures.1 in
    let was = c.args.self.now in
    let now = c.ask.new.self in
    not_read_ends _ c.from_residual-in_err-names.result (state_of_parts was.is_ready was.tags (g.L.Link.stops was.wire.link) was.wire.heard.read)
    (state_of_parts now.is_ready now.tags (g.L.Link.stops now.wire.link) now.wire.heard.read) (p.1 ∙ ap Err (p.2 ∙ c.in_err-names.ensures.err)) c.in_ok-ask.ensures.asked

pub returns-in_err-names-clause-outcome : goal.returns-in_err-names-clause-outcome
returns-in_err-names-clause-outcome g c honest logged =
    let a = c.in_ok-ask.ensures.outcome honest in
    let still = ap (λ (c : Condition). is_logged_in c) a.visits.condition ∙ logged in
    record {
      mid = a.mid;
      visits = a.visits;
      then =
          let p = err_from_is_err_and c.from_residual-in_err-names.result c.from_residual-in_err-names.ensures.1 in
          let n = c.args.self.now.tags + 1 in
          let old = a.mid in
          let new = (reported_server (g.L.Link.line c.ask.new.self.wire.link)) in
          let said = names_exchanged n old still (Ok tt) c.ask.new.self.wire.heard.read new a.then in
          not_read _ c.from_residual-in_err-names.result (λ names. names.items) old new (p.1 ∙ ap Err (p.2 ∙ c.in_err-names.ensures.err)) said.1;
    }

pub returns-clause-outcome : goal.returns-clause-outcome
returns-clause-outcome g c =
    let n = c.args.self.now.tags + 1 in
    let old = (reported_server (g.L.Link.line c.args.self.now.wire.link)) in
    let heard = c.ask.new.self.wire.heard.read in
    subst (λ w. g.L.Link.honest w.link → is_logged_in old.condition ≡ true → Among g.L.Link.visitors (ReportsNames c.in_ok-names.names.items) old (reported_server (g.L.Link.line w.link))) (sym c.done.ensures.wire)
    (λ honest logged.
    let a = c.in_ok-ask.ensures.outcome honest in
    let still = ap (λ (c : Condition). is_logged_in c) a.visits.condition ∙ logged in
    record {
      mid = a.mid;
      visits = a.visits;
      then =
          let said = names_exchanged n a.mid still (Ok tt) heard (reported_server (g.L.Link.line c.ask.new.self.wire.link)) a.then in
          (names_reported (tag_text n) heard a.mid c.in_ok-names.names.items said.0 c.in_ok-names.ensures.reported, said.1);
    })
