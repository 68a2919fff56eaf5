use Rattle.std.proofs.Common.{◌≡◌, inr, ℕ, ◌+◌, Option, Some, sym, ◌∙◌, ap, subst, Result, Ok, Err}
use Rattle.std.proofs.lemmas.Result.{err_from_is_err_and}
use Rattle.imap_replies.specs.declared.word.Status.TheVariants as statuses
use Rattle.mailcore.specs.CopyPieces.{text_left}
use Rattle.imap_session.specs.Mailboxes.{FarMailbox}
use Rattle.imap_session.specs.Servers.{selected}
use Rattle.imap_session.specs.Lines.{reported_server}
use Rattle.imap_link.specs.declared.fault.FarFault.{FarFault}
use Rattle.imap_link.specs.Outcomes.{Outcome}
use Rattle.imap_client.specs.Tags.{tag_text}
use Rattle.imap_client.specs.Appending.{Adds, AddsSome, NoUidLeft, names_to_add}
use Rattle.imap_client.specs.Boxes.{IsSelected}
use Rattle.imap_client.specs.Seen.{flags_sent}
use Rattle.imap_client.specs.States.{EndsSo}
use Rattle.imap_client.proofs.Adding.{AddedSo, add_exchanged, some_of, reported_so, adds_so, never_protocol, reported_fails}
use Rattle.imap_client.proofs.Changed.{outcome_err, state_of_parts}
use Rattle.imap_client.proofs.Selecting.{speaks_of}
use Rattle.imap_session.specs.Visits.{Among}
use Rattle.imap_client.proofs.session.Session.add.Goals as goal

pub given-requires : goal.given-requires
given-requires g c = speaks_of (tag_text c.ask_to_add.new.self.tags) statuses.Ok _ c.in_ok-ask_to_add.ensures.answer

pub returns-in_err-ask_to_add-clause-outcome : goal.returns-in_err-ask_to_add-clause-outcome
returns-in_err-ask_to_add-clause-outcome g c honest =
    let w = c.in_err-ask_to_add.ensures.outcome honest in
    record {
      mid = w.mid;
      visits = w.visits;
      then = λ sel m is.
          let p = err_from_is_err_and c.from_residual.result c.from_residual.ensures.1 in
          let f = c.in_err-ask_to_add.field-0.0 in
          let a = c.args.addition.now in
          let n = c.args.self.now.tags + 1 in
          let old = w.mid in
          let new = (reported_server (g.L.Link.line c.ask_to_add.new.self.wire.link)) in
          let heard = c.ask_to_add.new.self.wire.heard.read in
          subst (λ (r : Result (Option ℕ) FarFault). Outcome (Adds m (flags_sent a.keywords.now a.flags old) (text_left a.octets)) (NoUidLeft m) (AddsSome m (flags_sent a.keywords.now a.flags old) (text_left a.octets)) r old new) (sym (p.1 ∙ ap Err p.2))
          (outcome_err (Unit {0}) (Option ℕ) (λ _. AddedSo n a.name.now m (flags_sent a.keywords.now a.flags old) (text_left a.octets) heard) (Adds m (flags_sent a.keywords.now a.flags old) (text_left a.octets)) (NoUidLeft m) (AddsSome m (flags_sent a.keywords.now a.flags old) (text_left a.octets)) old new f
          (add_exchanged n a.name.now (names_to_add a) (text_left a.octets) old m sel.0 is (Err f) heard new w.then));
    }

pub returns-in_err-given-clause-ends : goal.returns-in_err-given-clause-ends
returns-in_err-given-clause-ends g c =
    let p = err_from_is_err_and c.from_residual-in_err-given.result c.from_residual-in_err-given.ensures.1 in
    let was = c.args.self.now in
    let now = c.ask_to_add.new.self in
    subst (λ (r : Result (Option ℕ) FarFault). EndsSo 1 (state_of_parts was.is_ready was.tags (g.L.Link.stops was.wire.link) was.wire.heard.read) (state_of_parts now.is_ready now.tags (g.L.Link.stops now.wire.link) now.wire.heard.read) r)
    (sym (p.1 ∙ ap Err (p.2 ∙ c.in_err-given.ensures.err)))
    (record { was_ready = c.in_ok-ask_to_add.ensures.asked.was_ready; is_ready = c.in_ok-ask_to_add.ensures.asked.begun })

pub returns-in_err-given-clause-outcome : goal.returns-in_err-given-clause-outcome
returns-in_err-given-clause-outcome g c honest =
    let w = c.in_ok-ask_to_add.ensures.outcome honest in
    record {
      mid = w.mid;
      visits = w.visits;
      then = λ sel m is.
          let p = err_from_is_err_and c.from_residual-in_err-given.result c.from_residual-in_err-given.ensures.1 in
          let a = c.args.addition.now in
          let n = c.args.self.now.tags + 1 in
          let old = w.mid in
          let new = (reported_server (g.L.Link.line c.ask_to_add.new.self.wire.link)) in
          let heard = c.ask_to_add.new.self.wire.heard.read in
          let done_so = add_exchanged n a.name.now (names_to_add a) (text_left a.octets) old m sel.0 is (Ok tt) heard new w.then in
          subst (λ (r : Result (Option ℕ) FarFault). Outcome (Adds m (flags_sent a.keywords.now a.flags old) (text_left a.octets)) (NoUidLeft m) (AddsSome m (flags_sent a.keywords.now a.flags old) (text_left a.octets)) r old new) (sym (p.1 ∙ ap Err (p.2 ∙ c.in_err-given.ensures.err)))
          (inr (some_of n a.name.now (names_to_add a) (text_left a.octets) old m sel.0 is heard new done_so));
    }

pub returns-in_err-reported-clause-ends : goal.returns-in_err-reported-clause-ends
returns-in_err-reported-clause-ends g c =
    let p = err_from_is_err_and c.from_residual-in_err-reported.result c.from_residual-in_err-reported.ensures.1 in
    let was = c.args.self.now in
    let now = c.ask_to_add.new.self in
    let fault = reported_fails c.in_ok-given.given c.args.validity c.args.next c.in_err-reported.field-0.0 (sym c.uid_reported.ensures ∙ c.in_err-reported.was) in
    subst (λ (r : Result (Option ℕ) FarFault). EndsSo 1 (state_of_parts was.is_ready was.tags (g.L.Link.stops was.wire.link) was.wire.heard.read) (state_of_parts now.is_ready now.tags (g.L.Link.stops now.wire.link) now.wire.heard.read) r)
    (sym (p.1 ∙ ap Err (p.2 ∙ fault)))
    (record { was_ready = c.in_ok-ask_to_add.ensures.asked.was_ready; is_ready = c.in_ok-ask_to_add.ensures.asked.begun })

pub returns-in_err-reported-clause-outcome : goal.returns-in_err-reported-clause-outcome
returns-in_err-reported-clause-outcome g c honest =
    let w = c.in_ok-ask_to_add.ensures.outcome honest in
    record {
      mid = w.mid;
      visits = w.visits;
      then = λ sel m is.
          let a = c.args.addition.now in
          let n = c.args.self.now.tags + 1 in
          let old = w.mid in
          let new = (reported_server (g.L.Link.line c.ask_to_add.new.self.wire.link)) in
          let heard = c.ask_to_add.new.self.wire.heard.read in
          let done_so = add_exchanged n a.name.now (names_to_add a) (text_left a.octets) old m sel.0 is (Ok tt) heard new w.then in
          let reported = reported_so n a.name.now m (flags_sent a.keywords.now a.flags w.mid) (text_left a.octets) heard old new c.args.validity c.args.next sel is done_so c.in_ok-given.given c.in_ok-given.ensures.reported in
          absurd (never_protocol done_so.uid _ c.in_err-reported.field-0.0 reported (sym c.uid_reported.ensures ∙ c.in_err-reported.was));
    }

pub returns-clause-outcome : goal.returns-clause-outcome
returns-clause-outcome g c =
    let a = c.args.addition.now in
    let n = c.args.self.now.tags + 1 in
    let old = (reported_server (g.L.Link.line c.args.self.now.wire.link)) in
    let heard = c.ask_to_add.new.self.wire.heard.read in
    subst (λ w. g.L.Link.honest w.link → Among g.L.Link.visitors (λ old new. IsSelected a.name.now c.args.validity c.args.next old → (m : FarMailbox) → selected old ≡ Some m → Adds m (flags_sent a.keywords.now a.flags old) (text_left a.octets) c.in_ok-reported.reported old new) old (reported_server (g.L.Link.line w.link))) (sym c.done.ensures.wire)
    (λ honest.
    let w = c.in_ok-ask_to_add.ensures.outcome honest in
    record {
      mid = w.mid;
      visits = w.visits;
      then = λ sel m is.
          let new = (reported_server (g.L.Link.line c.ask_to_add.new.self.wire.link)) in
          let done_so = add_exchanged n a.name.now (names_to_add a) (text_left a.octets) w.mid m sel.0 is (Ok tt) heard new w.then in
          let reported = reported_so n a.name.now m (flags_sent a.keywords.now a.flags w.mid) (text_left a.octets) heard w.mid new c.args.validity c.args.next sel is done_so c.in_ok-given.given c.in_ok-given.ensures.reported in
          adds_so n a.name.now m (flags_sent a.keywords.now a.flags w.mid) (text_left a.octets) heard w.mid new _ c.in_ok-reported.reported done_so reported (sym c.uid_reported.ensures ∙ c.in_ok-reported.was);
    })
