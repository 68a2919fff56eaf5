use Rattle.std.proofs.Common.{◌≡◌, inr, ℕ, ◌+◌, List, ◌++◌, ◌∷◌, [], true, false, sym, ◌∙◌, ap, subst, Result, Ok, Err}
use Rattle.std.proofs.lemmas.Result.{err_from_is_err_and}
use Rattle.imap_session.specs.Answering.{done}
use Rattle.imap_session.specs.Lines.{reported_server}
use Rattle.imap_link.specs.declared.fault.FarFault.{FarFault}
use Rattle.imap_link.specs.UsedReplies.{abilities_read}
use Rattle.imap_link.specs.Outcomes.{Outcome, Never}
use Rattle.imap_client.specs.Tags.{tag_text}
use Rattle.imap_client.specs.Saying.{HeardOf}
use Rattle.imap_client.specs.Logins.{Remains}
use Rattle.imap_client.proofs.Changed.{outcome_err}
use Rattle.imap_client.proofs.LoggingIn.{abilities, ability_exchanged, named_so}
use Rattle.imap_client.proofs.Transcribed.{command_ends, says_so, answers_ok}
use Rattle.imap_client.specs.Transcripts.{EndsBy, Hears, Says, of_abilities, NamesRev2, LacksRev2}
use Rattle.imap_replies.specs.declared.word.Status.TheVariants as statuses
use Rattle.imap_session.specs.Visits.{Among}
use Rattle.imap_link.specs.Sinks.{any_replies}
use Rattle.imap_client.proofs.session.Session.ask_abilities.Goals as goal

pub returns-in_err-ask-clause-heard : goal.returns-in_err-ask-clause-heard
returns-in_err-ask-clause-heard g c =
    let p = err_from_is_err_and c.from_residual.result c.from_residual.ensures.1 in
    let n = c.args.self.now.tags + 1 in
    let old = c.args.self.now.transcript in
    let new = c.ask.new.self.transcript in
    subst (λ (r : Result (Unit {0}) FarFault). EndsBy (of_abilities n) r old new) (sym (p.1 ∙ ap Err p.2))
    (command_ends n c.ask.new.self.wire.heard.read (Unit {0}) (of_abilities n) (λ b h. h) (λ b h. h) c.in_err-ask.field-0.0 old new c.in_err-ask.ensures.heard)

pub returns-then-not-speaks-clause-heard : goal.returns-then-not-speaks-clause-heard
returns-then-not-speaks-clause-heard g c =
    let n = c.args.self.now.tags + 1 in
    says_so n c.ask.new.self.wire.heard.read c.args.self.now.transcript c.ask.new.self.transcript c.in_ok-ask.ensures.heard LacksRev2
    (λ rs are. sym (c.in_ok-speaks.ensures.reported rs are) ∙ c.if-not-speaks.true)

pub returns-in_err-speaks-clause-heard : goal.returns-in_err-speaks-clause-heard
returns-in_err-speaks-clause-heard g c =
    let p = err_from_is_err_and c.from_residual-in_err-speaks.result c.from_residual-in_err-speaks.ensures.1 in
    let n = c.args.self.now.tags + 1 in
    let old = c.args.self.now.transcript in
    let new = c.ask.new.self.transcript in
    subst (λ (r : Result (Unit {0}) FarFault). EndsBy (of_abilities n) r old new) (sym (p.1 ∙ ap Err (p.2 ∙ c.in_err-speaks.ensures.err)))
    (inr (answers_ok n c.ask.new.self.wire.heard.read old new c.in_ok-ask.ensures.heard))

pub returns-clause-heard : goal.returns-clause-heard
returns-clause-heard g c =
    let n = c.args.self.now.tags + 1 in
    let old = c.args.self.now.transcript in
    subst (λ (t : List (List ℕ)). Hears (Says n statuses.Ok NamesRev2) old t) (sym c.done.ensures.transcript)
    (says_so n c.ask.new.self.wire.heard.read old c.ask.new.self.transcript c.in_ok-ask.ensures.heard NamesRev2
    (λ rs are. sym (c.in_ok-speaks.ensures.reported rs are) ∙ c.if-not-speaks.false))

pub returns-in_err-ask-clause-outcome : goal.returns-in_err-ask-clause-outcome
returns-in_err-ask-clause-outcome g c honest =
    let a = c.in_err-ask.ensures.outcome honest in
    record {
      mid = a.mid;
      visits = a.visits;
      then =
          let p = err_from_is_err_and c.from_residual.result c.from_residual.ensures.1 in
          let f = c.in_err-ask.field-0.0 in
          let old = a.mid in
          let new = (reported_server (g.L.Link.line c.ask.new.self.wire.link)) in
          let n = c.args.self.now.tags + 1 in
          let heard = c.ask.new.self.wire.heard.read in
          subst (λ (r : Result (Unit {0}) FarFault). Outcome (λ x. Remains) Never Remains r old new) (sym (p.1 ∙ ap Err p.2))
          (outcome_err (Unit {0}) (Unit {0}) (λ _ s t. HeardOf old.keywords abilities_read any_replies (abilities ++ done (tag_text n) ∷ []) heard × Remains s t) (λ x. Remains) Never Remains old new f
          (ability_exchanged n old (Err f) heard new a.then));
    }

pub returns-then-not-speaks-clause-outcome : goal.returns-then-not-speaks-clause-outcome
returns-then-not-speaks-clause-outcome g c honest =
    let a = c.in_ok-ask.ensures.outcome honest in
    record {
      mid = a.mid;
      visits = a.visits;
      then =
          let old = a.mid in
          let new = (reported_server (g.L.Link.line c.ask.new.self.wire.link)) in
          let n = c.args.self.now.tags + 1 in
          let done_so = ability_exchanged n old (Ok tt) c.ask.new.self.wire.heard.read new a.then in
          let reported = named_so old.keywords (tag_text n) _ c.in_ok-speaks.speaks done_so.0 c.in_ok-speaks.ensures.reported in
          let both : false ≡ true = sym c.if-not-speaks.true ∙ reported in
          cc;
    }

pub returns-in_err-speaks-clause-outcome : goal.returns-in_err-speaks-clause-outcome
returns-in_err-speaks-clause-outcome g c honest =
    let a = c.in_ok-ask.ensures.outcome honest in
    record {
      mid = a.mid;
      visits = a.visits;
      then =
          let p = err_from_is_err_and c.from_residual-in_err-speaks.result c.from_residual-in_err-speaks.ensures.1 in
          let old = a.mid in
          let new = (reported_server (g.L.Link.line c.ask.new.self.wire.link)) in
          subst (λ (r : Result (Unit {0}) FarFault). Outcome (λ x. Remains) Never Remains r old new) (sym (p.1 ∙ ap Err (p.2 ∙ c.in_err-speaks.ensures.err)))
          (inr (ability_exchanged (c.args.self.now.tags + 1) old (Ok tt) c.ask.new.self.wire.heard.read new a.then).1);
    }

pub returns-clause-outcome : goal.returns-clause-outcome
returns-clause-outcome g c =
    let old = (reported_server (g.L.Link.line c.args.self.now.wire.link)) in
    subst (λ w. g.L.Link.honest w.link → Among g.L.Link.visitors (λ old new. Remains old new) old (reported_server (g.L.Link.line w.link))) (sym c.done.ensures.wire)
    (λ honest.
    let a = c.in_ok-ask.ensures.outcome honest in
    record {
      mid = a.mid;
      visits = a.visits;
      then =
          (ability_exchanged (c.args.self.now.tags + 1) a.mid (Ok tt) c.ask.new.self.wire.heard.read (reported_server (g.L.Link.line c.ask.new.self.wire.link)) a.then).1;
    })
