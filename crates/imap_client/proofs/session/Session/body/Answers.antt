use Rattle.std.proofs.Common.{◌≡◌, ℕ, Option, Some, ◌+◌, List, sym, ◌∙◌, ap, subst, Result, Ok, Err}
use Rattle.std.proofs.lemmas.Result.{err_from_is_err_and}
use Rattle.mailcore.specs.Operations.{bytes_of}
use Rattle.mailcore.specs.Ranges.{AreInRange}
use Rattle.mailcore.specs.Stores.{IsStore}
use Rattle.imap_commands.specs.declared.command.FetchItems.TheVariants as wanted
use Rattle.imap_replies.specs.declared.word.Status.TheVariants as statuses
use Rattle.imap_session.specs.Heard.{AreReplies}
use Rattle.imap_session.specs.Mailboxes.{FarMailbox}
use Rattle.imap_session.specs.Servers.{selected}
use Rattle.imap_session.specs.Lines.{reported_server}
use Rattle.imap_session.specs.Visits.{Among}
use Rattle.imap_link.specs.declared.fault.FarFault.{FarFault}
use Rattle.imap_link.specs.Outcomes.{Outcome, Never}
use Rattle.imap_link.specs.Sinks.{any_replies}
use Rattle.imap_answers.specs.declared.bodies.FoundBody.{FoundBody}
use Rattle.imap_answers.specs.Bodies.{body_reported, found_at}
use Rattle.imap_answers.specs.Readings.{ReadsAs, Reports}
use Rattle.imap_answers.specs.Spoken.{Speaks}
use Rattle.imap_client.specs.Boxes.{one_uid}
use Rattle.imap_client.specs.Logins.{Remains}
use Rattle.imap_client.specs.Tags.{tag_text}
use Rattle.imap_client.proofs.BodyReported.{reports_body}
use Rattle.imap_client.proofs.Changed.{outcome_err}
use Rattle.imap_client.proofs.Fetched.{replies_for, FetchReports, fetch_exchanged, fetch_unchanged, bodies_read, reads_so, reads_err}
use Rattle.imap_client.proofs.Selecting.{speaks_of}
use Rattle.imap_client.proofs.session.Session.body.Goals as goal

pub body_reported-requires : goal.body_reported-requires
body_reported-requires g c = subst Speaks (sym c.read_part.ensures) (speaks_of (tag_text c.ask.new.self.tags) statuses.Ok _ c.in_ok-ask.ensures.answer)

pub returns-in_err-ask-clause-outcome : goal.returns-in_err-ask-clause-outcome
returns-in_err-ask-clause-outcome g c honest =
    let a = c.in_err-ask.ensures.outcome honest in
    record {
      mid = a.mid;
      visits = a.visits;
      then = λ m is store range.
          let p = err_from_is_err_and c.from_residual.result c.from_residual.ensures.1 in
          let f = c.in_err-ask.field-0.0 in
          let n = c.args.self.now.tags + 1 in
          let read = c.ask.new.self.wire.heard.read in
          let old = a.mid in
          let new = (reported_server (g.L.Link.line c.ask.new.self.wire.link)) in
          let so = λ (found : Option FoundBody). found_at read found ≡ bytes_of c.args.uid m.store in
          subst (λ (r : Result (Option FoundBody) FarFault). Outcome (Reports so) Never Remains r old new) (sym (p.1 ∙ ap Err p.2))
          (outcome_err (Unit {0}) (Option FoundBody) (λ x. Reports (λ _. FetchReports n old.keywords m (one_uid c.args.uid) wanted.Body any_replies read) x) (Reports so) Never Remains old new f
          (fetch_exchanged n old m is (one_uid c.args.uid) wanted.Body any_replies tt (Err f) read new a.then));
    }

pub returns-in_err-body-clause-outcome : goal.returns-in_err-body-clause-outcome
returns-in_err-body-clause-outcome g c honest =
    let a = c.in_ok-ask.ensures.outcome honest in
    record {
      mid = a.mid;
      visits = a.visits;
      then = λ m is store range.
          let p = err_from_is_err_and c.from_residual-in_err-body.result c.from_residual-in_err-body.ensures.1 in
          let f = c.in_err-body.field-0.0 in
          let n = c.args.self.now.tags + 1 in
          let read = c.ask.new.self.wire.heard.read in
          let old = a.mid in
          let new = (reported_server (g.L.Link.line c.ask.new.self.wire.link)) in
          let so = λ (found : Option FoundBody). found_at read found ≡ bytes_of c.args.uid m.store in
          let rs = replies_for a.mid.keywords m (one_uid c.args.uid) wanted.Body (tag_text n) in
          let reported = fetch_exchanged n old m is (one_uid c.args.uid) wanted.Body any_replies tt (Ok tt) read new a.then in
          let are = bodies_read n a.mid.keywords m (one_uid c.args.uid) any_replies read reported.0 in
          let reads = c.in_err-body.ensures.reported rs (subst (AreReplies rs) (sym c.read_part.ensures) are) in
          subst (λ (r : Result (Option FoundBody) FarFault). Outcome (Reports so) Never Remains r old new) (sym (p.1 ∙ ap Err p.2))
          (reads_err (Option FoundBody) (Option (List ℕ)) (found_at read) (body_reported c.args.uid rs) (bytes_of c.args.uid m.store) (reports_body a.mid.keywords c.args.uid m (tag_text n) store range) old new reported.1 f
          (subst (λ (bytes : List ℕ). ReadsAs {T = Option FoundBody} (found_at bytes) (Err f) (body_reported c.args.uid rs)) c.read_part.ensures reads));
    }

pub returns-clause-outcome : goal.returns-clause-outcome
returns-clause-outcome g c =
    let n = c.args.self.now.tags + 1 in
    let read = c.ask.new.self.wire.heard.read in
    let old = (reported_server (g.L.Link.line c.args.self.now.wire.link)) in
    subst (λ w. g.L.Link.honest w.link → Among g.L.Link.visitors (λ old new. (m : FarMailbox) → selected old ≡ Some m → IsStore m.store → AreInRange m.store.messages
    → Reports (λ (found : Option FoundBody). found_at w.heard.read found ≡ bytes_of c.args.uid m.store) c.in_ok-body.body old new) old (reported_server (g.L.Link.line w.link))) (sym c.done.ensures.wire)
    (λ honest.
    let a = c.in_ok-ask.ensures.outcome honest in
    record {
      mid = a.mid;
      visits = a.visits;
      then = λ m is store range.
          let new = (reported_server (g.L.Link.line c.ask.new.self.wire.link)) in
          let rs = replies_for a.mid.keywords m (one_uid c.args.uid) wanted.Body (tag_text n) in
          let reported = fetch_exchanged n a.mid m is (one_uid c.args.uid) wanted.Body any_replies tt (Ok tt) read new a.then in
          let are = bodies_read n a.mid.keywords m (one_uid c.args.uid) any_replies read reported.0 in
          let reads = c.in_ok-body.ensures.reported rs (subst (AreReplies rs) (sym c.read_part.ensures) are) in
          reads_so (Option FoundBody) (Option (List ℕ)) (found_at read) (body_reported c.args.uid rs) (bytes_of c.args.uid m.store) (reports_body a.mid.keywords c.args.uid m (tag_text n) store range) a.mid new reported.1 c.in_ok-body.body
          (subst (λ (bytes : List ℕ). ReadsAs (found_at bytes) (Ok c.in_ok-body.body) (body_reported c.args.uid rs)) c.read_part.ensures reads);
    })

pub returns-in_err-ask-clause-remains : goal.returns-in_err-ask-clause-remains
returns-in_err-ask-clause-remains g c honest =
    let a = c.in_err-ask.ensures.outcome honest in
    record {
      mid = a.mid;
      visits = a.visits;
      then = λ m is.
          fetch_unchanged (c.args.self.now.tags + 1) a.mid m is (one_uid c.args.uid) wanted.Body any_replies (Err c.in_err-ask.field-0.0) c.ask.new.self.wire.heard.read
          (reported_server (g.L.Link.line c.ask.new.self.wire.link)) a.then;
    }

pub returns-in_err-body-clause-remains : goal.returns-in_err-body-clause-remains
returns-in_err-body-clause-remains g c honest =
    let a = c.in_ok-ask.ensures.outcome honest in
    record {
      mid = a.mid;
      visits = a.visits;
      then = λ m is.
          fetch_unchanged (c.args.self.now.tags + 1) a.mid m is (one_uid c.args.uid) wanted.Body any_replies (Ok tt) c.ask.new.self.wire.heard.read
          (reported_server (g.L.Link.line c.ask.new.self.wire.link)) a.then;
    }

pub returns-clause-remains : goal.returns-clause-remains
returns-clause-remains g c =
    let old = (reported_server (g.L.Link.line c.args.self.now.wire.link)) in
    subst (λ w. g.L.Link.honest w.link → Among g.L.Link.visitors (λ old new. (m : FarMailbox) → selected old ≡ Some m → Remains old new) old (reported_server (g.L.Link.line w.link))) (sym c.done.ensures.wire)
    (λ honest.
    let a = c.in_ok-ask.ensures.outcome honest in
    record {
      mid = a.mid;
      visits = a.visits;
      then = λ m is.
          fetch_unchanged (c.args.self.now.tags + 1) a.mid m is (one_uid c.args.uid) wanted.Body any_replies (Ok tt) c.ask.new.self.wire.heard.read
          (reported_server (g.L.Link.line c.ask.new.self.wire.link)) a.then;
    })
