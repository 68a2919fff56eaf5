use Rattle.std.proofs.Common.{◌≡◌, inl, inr, ℕ, ◌+◌, List, true, false, sym, ◌∙◌, ap, subst, Result, Ok, Err}
use Rattle.std.proofs.lemmas.Result.{err_from_is_err_and}
use Rattle.imap_replies.specs.declared.word.Status.TheVariants as statuses
use Rattle.imap_session.specs.Servers.{is_logged_in}
use Rattle.imap_session.specs.Lines.{reported_server}
use Rattle.imap_link.specs.declared.fault.FarFault.{FarFault}
use Rattle.imap_link.specs.Outcomes.{Outcome}
use Rattle.imap_client.specs.declared.far_box.SelectedBox.{SelectedBox}
use Rattle.imap_answers.specs.declared.opening.Opening.{Opening}
use Rattle.imap_client.specs.Tags.{tag_text}
use Rattle.imap_client.specs.Boxes.{Selects, NoMailbox, Chooses}
use Rattle.imap_client.specs.Seen.{HasMap}
use Rattle.imap_client.specs.States.{EndsSo}
use Rattle.imap_client.proofs.Mapped.{mapped_then}
use Rattle.imap_client.proofs.Changed.{outcome_err, state_of_parts}
use Rattle.imap_client.proofs.Selecting.{ChosenBy, effect_so, numbers_so, ok_chosen, select_exchanged, selects_so, speaks_of, reported_so}
use Rattle.imap_client.proofs.Transcribed.{command_ends, answers_ok, lacks_next, lacks_validity, is_read_only, is_opened}
use Rattle.imap_client.specs.Transcripts.{EndsBy, Hears, Says, of_select, opened}
use Rattle.imap_answers.specs.Openings.{opening_of}
use Rattle.imap_link.specs.declared.fault.FarFault.TheVariants as faults
use Rattle.imap_session.specs.Visits.{Among}
use Rattle.imap_session.specs.Servers.{Condition}
use Rattle.imap_client.proofs.session.Session.choose.Goals as goal

abbrev reported : SelectedBox → Opening
reported x = opened x.validity x.next

pub returns-in_err-ask-clause-heard : goal.returns-in_err-ask-clause-heard
returns-in_err-ask-clause-heard g c =
    let p = err_from_is_err_and c.from_residual.result c.from_residual.ensures.1 in
    let n = c.args.self.now.tags + 1 in
    let old = c.args.self.now.transcript in
    let new = c.ask.new.self.transcript in
    subst (λ (r : Result SelectedBox FarFault). EndsBy (of_select c.args.keywords.now n reported) r old new) (sym (p.1 ∙ ap Err p.2))
    (command_ends n c.ask.new.self.wire.heard.read SelectedBox (of_select c.args.keywords.now n reported) (λ b h. h) (λ b h. inl h) c.in_err-ask.field-0.0 old new c.in_err-ask.ensures.heard)

pub returns-in_err-opening-clause-heard : goal.returns-in_err-opening-clause-heard
returns-in_err-opening-clause-heard g c =
    let p = err_from_is_err_and c.from_residual-in_err-opening.result c.from_residual-in_err-opening.ensures.1 in
    let n = c.args.self.now.tags + 1 in
    let old = c.args.self.now.transcript in
    let new = c.ask.new.self.transcript in
    subst (λ (r : Result SelectedBox FarFault). EndsBy (of_select c.args.keywords.now n reported) r old new) (sym (p.1 ∙ ap Err (p.2 ∙ c.in_err-opening.ensures.err)))
    (inr (answers_ok n c.ask.new.self.wire.heard.read old new c.in_ok-ask.ensures.heard))

pub returns-in_default-clause-heard : goal.returns-in_default-clause-heard
returns-in_default-clause-heard g c =
    lacks_next c.args.keywords.now SelectedBox reported (c.args.self.now.tags + 1) c.ask.new.self.wire.heard.read c.args.self.now.transcript c.ask.new.self.transcript c.in_ok-ask.ensures.heard c.in_ok-opening.opening c.in_ok-opening.ensures.reported
    c.in_default.not-Some

pub returns-in_default-validity-clause-heard : goal.returns-in_default-validity-clause-heard
returns-in_default-validity-clause-heard g c =
    lacks_validity c.args.keywords.now SelectedBox reported (c.args.self.now.tags + 1) c.ask.new.self.wire.heard.read c.args.self.now.transcript c.ask.new.self.transcript c.in_ok-ask.ensures.heard c.in_ok-opening.opening c.in_ok-opening.ensures.reported
    c.in_default-validity.not-Some

pub returns-then-opening-clause-heard : goal.returns-then-opening-clause-heard
returns-then-opening-clause-heard g c =
    let n = c.args.self.now.tags + 1 in
    let old = c.args.self.now.transcript in
    subst (λ (t : List (List ℕ)). EndsBy (of_select c.args.keywords.now n reported) (Err faults.ReadOnly) old t) (sym c.done.ensures.transcript)
    (is_read_only c.args.keywords.now SelectedBox reported n c.ask.new.self.wire.heard.read old c.ask.new.self.transcript c.in_ok-ask.ensures.heard c.in_ok-opening.opening c.in_ok-opening.ensures.reported
    c.in-Some-validity.validity c.in-Some.next c.in-Some.is c.in-Some-validity.is c.if-opening.true)

pub returns-clause-heard : goal.returns-clause-heard
returns-clause-heard g c =
    let n = c.args.self.now.tags + 1 in
    let old = c.args.self.now.transcript in
    subst (λ (t : List (List ℕ)). Hears (Says n statuses.Ok (λ rs. opening_of c.args.keywords.now rs ≡ opened c.in-Some-validity.validity c.in-Some.next)) old t) (sym c.done.ensures.transcript)
    (is_opened c.args.keywords.now SelectedBox reported n c.ask.new.self.wire.heard.read old c.ask.new.self.transcript c.in_ok-ask.ensures.heard c.in_ok-opening.opening c.in_ok-opening.ensures.reported
    c.in-Some-validity.validity c.in-Some.next c.in-Some.is c.in-Some-validity.is c.if-opening.false)

pub opening-requires : goal.opening-requires
opening-requires g c = speaks_of (tag_text c.ask.new.self.tags) statuses.Ok _ c.in_ok-ask.ensures.answer

pub returns-in_err-ask-clause-outcome : goal.returns-in_err-ask-clause-outcome
returns-in_err-ask-clause-outcome g c honest has logged =
    let a = c.in_err-ask.ensures.outcome honest in
    let still = ap (λ (c : Condition). is_logged_in c) a.visits.condition ∙ logged in
    record {
      mid = a.mid;
      visits = a.visits;
      then =
          let p = err_from_is_err_and c.from_residual.result c.from_residual.ensures.1 in
          let f = c.in_err-ask.field-0.0 in
          let name = c.args.name.now in
          let old = a.mid in
          let new = (reported_server (g.L.Link.line c.ask.new.self.wire.link)) in
          subst (λ (r : Result SelectedBox FarFault). Outcome (λ x. Selects name x.validity x.next) (NoMailbox name) (Chooses name) r old new) (sym (p.1 ∙ ap Err p.2))
          (outcome_err (Unit {0}) SelectedBox (λ _. ChosenBy name (tag_text (c.args.self.now.tags + 1)) c.ask.new.self.wire.heard.read) (λ x. Selects name x.validity x.next) (NoMailbox name) (Chooses name) old new f
          (select_exchanged (c.args.self.now.tags + 1) name old still (Err f) c.ask.new.self.wire.heard.read new a.then));
    }

pub returns-in_err-opening-clause-ends : goal.returns-in_err-opening-clause-ends
returns-in_err-opening-clause-ends g c =
    let p = err_from_is_err_and c.from_residual-in_err-opening.result c.from_residual-in_err-opening.ensures.1 in
    let was = c.args.self.now in
    let now = c.ask.new.self in
    subst (λ (r : Result SelectedBox FarFault). EndsSo 1 (state_of_parts was.is_ready was.tags (g.L.Link.stops was.wire.link) was.wire.heard.read) (state_of_parts now.is_ready now.tags (g.L.Link.stops now.wire.link) now.wire.heard.read) r)
    (sym (p.1 ∙ ap Err (p.2 ∙ c.in_err-opening.ensures.err)))
    (record { was_ready = c.in_ok-ask.ensures.asked.was_ready; is_ready = c.in_ok-ask.ensures.asked.begun })

pub returns-in_err-opening-clause-outcome : goal.returns-in_err-opening-clause-outcome
returns-in_err-opening-clause-outcome g c honest has logged =
    let a = c.in_ok-ask.ensures.outcome honest in
    let still = ap (λ (c : Condition). is_logged_in c) a.visits.condition ∙ logged in
    record {
      mid = a.mid;
      visits = a.visits;
      then =
          let p = err_from_is_err_and c.from_residual-in_err-opening.result c.from_residual-in_err-opening.ensures.1 in
          let name = c.args.name.now in
          let old = a.mid in
          let new = (reported_server (g.L.Link.line c.ask.new.self.wire.link)) in
          let chosen = select_exchanged (c.args.self.now.tags + 1) name old still (Ok tt) c.ask.new.self.wire.heard.read new a.then in
          subst (λ (r : Result SelectedBox FarFault). Outcome (λ x. Selects name x.validity x.next) (NoMailbox name) (Chooses name) r old new) (sym (p.1 ∙ ap Err (p.2 ∙ c.in_err-opening.ensures.err)))
          (inr (effect_so name _ _ old new chosen));
    }

pub returns-in_default-clause-outcome : goal.returns-in_default-clause-outcome
returns-in_default-clause-outcome g c honest has logged =
    let a = c.in_ok-ask.ensures.outcome honest in
    let still = ap (λ (c : Condition). is_logged_in c) a.visits.condition ∙ logged in
    record {
      mid = a.mid;
      visits = a.visits;
      then =
          let name = c.args.name.now in
          let old = a.mid in
          let new = (reported_server (g.L.Link.line c.ask.new.self.wire.link)) in
          let chosen = select_exchanged (c.args.self.now.tags + 1) name old still (Ok tt) c.ask.new.self.wire.heard.read new a.then in
          let reported = numbers_so name _ _ old new chosen c.args.keywords.now c.in_ok-opening.opening c.in_ok-opening.ensures.reported in
          c.in_default.not-Some _ reported.0;
    }

pub returns-in_default-validity-clause-outcome : goal.returns-in_default-validity-clause-outcome
returns-in_default-validity-clause-outcome g c honest has logged =
    let a = c.in_ok-ask.ensures.outcome honest in
    let still = ap (λ (c : Condition). is_logged_in c) a.visits.condition ∙ logged in
    record {
      mid = a.mid;
      visits = a.visits;
      then =
          let name = c.args.name.now in
          let old = a.mid in
          let new = (reported_server (g.L.Link.line c.ask.new.self.wire.link)) in
          let chosen = select_exchanged (c.args.self.now.tags + 1) name old still (Ok tt) c.ask.new.self.wire.heard.read new a.then in
          let reported = numbers_so name _ _ old new chosen c.args.keywords.now c.in_ok-opening.opening c.in_ok-opening.ensures.reported in
          c.in_default-validity.not-Some _ reported.1;
    }

pub returns-then-opening-clause-outcome : goal.returns-then-opening-clause-outcome
returns-then-opening-clause-outcome g c =
    let name = c.args.name.now in
    let old = (reported_server (g.L.Link.line c.args.self.now.wire.link)) in
    subst (λ w. g.L.Link.honest w.link → HasMap c.args.keywords.now old → is_logged_in old.condition ≡ true → Among g.L.Link.visitors (λ old new. ⊥) old (reported_server (g.L.Link.line w.link))) (sym c.done.ensures.wire)
    (λ honest has logged.
    let a = c.in_ok-ask.ensures.outcome honest in
    let still = ap (λ (c : Condition). is_logged_in c) a.visits.condition ∙ logged in
    record {
      mid = a.mid;
      visits = a.visits;
      then =
          let new = (reported_server (g.L.Link.line c.ask.new.self.wire.link)) in
          let chosen = select_exchanged (c.args.self.now.tags + 1) name a.mid still (Ok tt) c.ask.new.self.wire.heard.read new a.then in
          let reported = reported_so name _ _ a.mid new chosen c.args.keywords.now c.in_ok-opening.opening c.in_ok-opening.ensures.reported c.is_map.ensures (mapped_then g.L.Link.visitors c.args.keywords.now old a.mid a.visits has) in
          let both : false ≡ true = sym (ap (λ (o : Opening). o.is_read_only) reported) ∙ c.if-opening.true in
          cc;
    })

pub returns-clause-chosen : goal.returns-clause-chosen
returns-clause-chosen g c =
    let name = c.args.name.now in
    let old = (reported_server (g.L.Link.line c.args.self.now.wire.link)) in
    subst (λ w. g.L.Link.honest w.link → Among g.L.Link.visitors (Selects name c.in-Some-validity.validity c.in-Some.next) old (reported_server (g.L.Link.line w.link))) (sym c.done.ensures.wire)
    (λ honest.
    let a = c.in_ok-ask.ensures.outcome honest in
    record {
      mid = a.mid;
      visits = a.visits;
      then =
          let new = (reported_server (g.L.Link.line c.ask.new.self.wire.link)) in
          let chosen = ok_chosen (c.args.self.now.tags + 1) name a.mid tt c.ask.new.self.wire.heard.read new a.then in
          let reported = numbers_so name _ _ a.mid new chosen c.args.keywords.now c.in_ok-opening.opening c.in_ok-opening.ensures.reported in
          selects_so name _ _ a.mid new chosen c.in-Some-validity.validity c.in-Some.next c.in_ok-opening.opening reported c.in-Some-validity.is c.in-Some.is;
    })

pub returns-clause-outcome : goal.returns-clause-outcome
returns-clause-outcome g c =
    let name = c.args.name.now in
    let old = (reported_server (g.L.Link.line c.args.self.now.wire.link)) in
    subst (λ w. g.L.Link.honest w.link → HasMap c.args.keywords.now old → is_logged_in old.condition ≡ true → Among g.L.Link.visitors (Selects name c.in-Some-validity.validity c.in-Some.next) old (reported_server (g.L.Link.line w.link))) (sym c.done.ensures.wire)
    (λ honest has logged.
    let a = c.in_ok-ask.ensures.outcome honest in
    let still = ap (λ (c : Condition). is_logged_in c) a.visits.condition ∙ logged in
    record {
      mid = a.mid;
      visits = a.visits;
      then =
          let new = (reported_server (g.L.Link.line c.ask.new.self.wire.link)) in
          let chosen = select_exchanged (c.args.self.now.tags + 1) name a.mid still (Ok tt) c.ask.new.self.wire.heard.read new a.then in
          let reported = numbers_so name _ _ a.mid new chosen c.args.keywords.now c.in_ok-opening.opening c.in_ok-opening.ensures.reported in
          selects_so name _ _ a.mid new chosen c.in-Some-validity.validity c.in-Some.next c.in_ok-opening.opening reported c.in-Some-validity.is c.in-Some.is;
    })
