use Rattle.std.proofs.Common.{◌≡◌, [], sym, ◌∙◌, ap, subst, Result, Ok, Err}
use Rattle.std.proofs.lemmas.Result.{err_from_is_err_and}
use Rattle.imap_commands.specs.Writing.{Written}
use Rattle.imap_replies.specs.declared.word.Status.TheVariants as statuses
use Rattle.imap_session.specs.Lines.{reported_server}
use Rattle.imap_session.specs.Ends.{ends_of}
use Rattle.imap_link.specs.declared.fault.FarFault.{FarFault}
use Rattle.imap_replies.specs.declared.word.Status.{Status}
use Rattle.imap_link.specs.Outcomes.{Outcome, Never}
use Rattle.imap_client.specs.Leaving.{Leaves, LeftSo}
use Rattle.imap_client.proofs.Changed.{outcome_err}
use Rattle.imap_client.proofs.Exchanging.{state_at}
use Rattle.imap_client.proofs.LoggingOut.{logout_completes, left_answered, left_err, no_is_not, bad_is_not}
use Rattle.imap_client.proofs.Still.{idle_of}
use Rattle.imap_session.specs.Servers.{reported}
use Rattle.imap_link.proofs.Visited.{at_then, both_reported}
use Rattle.imap_link.specs.declared.fault.FarFault.TheVariants as faults
use Rattle.std.proofs.Common.{inl, refl}
use Rattle.imap_client.proofs.Visited.{unsent}
use Rattle.imap_client.proofs.session.Session.leave.Goals as goal

pub returns-in_err-status-clause-left : goal.returns-in_err-status-clause-left
returns-in_err-status-clause-left g c =
    let p = err_from_is_err_and c.from_residual-in_err-status.result c.from_residual-in_err-status.ensures.1 in
    let f = c.in_err-status.field-0.0 in
    let was = c.args.self.now in
    let old = state_at was.is_ready was.tags (g.L.Link.stops was.wire.link) was.wire.heard.read in
    let new = state_at was.is_ready was.tags (g.L.Link.stops c.finish.new.self.link) c.finish.new.self.heard.read in
    subst (λ (r : Result (Unit {0}) FarFault). LeftSo c.args.command.now.tag old new r) (sym (p.1 ∙ ap Err p.2))
    (left_err (Unit {0}) c.args.command.now.tag old new f c.in_err-status.ensures.known (λ e. c.in_err-status.ensures.stopped (ap Err e)))

pub returns-in_err-status-clause-outcome : goal.returns-in_err-status-clause-outcome
returns-in_err-status-clause-outcome g c honest =
    let p = err_from_is_err_and c.from_residual-in_err-status.result c.from_residual-in_err-status.ensures.1 in
    let f = c.in_err-status.field-0.0 in
    let command = c.args.command.now in
    let new = (reported_server (g.L.Link.line c.finish.new.self.link)) in
    let heard = c.finish.new.self.heard.read in
    let completes = logout_completes command c.requires.logout c.answer_alone-uses.result c.deref.result.now c.answer_alone-uses.ensures (subst (Written command) (sym c.deref.ensures.value) c.in_ok-text.ensures) in
    let at = idle_of (ends_of (g.L.Link.line c.args.self.now.wire.link) c.args.self.now.wire.heard.unread) (c.requires.idle (c.in_err-status.ensures.was_honest honest)) in
    let a = c.in_err-status.ensures.outcome honest in
    let old = reported a.mid in
    record {
      mid = old;
      visits = both_reported g.L.Link.visitors (g.L.Link.line c.args.self.now.wire.link).end.server a.mid a.visits;
      then =
          subst (λ (r : Result (Unit {0}) FarFault). Outcome (λ x. Leaves) Never Leaves r old new) (sym (p.1 ∙ ap Err p.2))
          (outcome_err Status (Unit {0}) (λ a s t. (a ≡ statuses.Ok) × Leaves s t) (λ x. Leaves) Never Leaves old new f
          (left_answered command c.requires.logout old (Err f) heard new (a.then command [] completes (at_then g.L.Link.visitors [] (g.L.Link.line c.args.self.now.wire.link) c.args.self.now.wire.heard.unread a.mid a.visits at))));
    }

pub returns-in-Ok-clause-outcome : goal.returns-in-Ok-clause-outcome
returns-in-Ok-clause-outcome g c honest =
    let command = c.args.command.now in
    let new = (reported_server (g.L.Link.line c.finish.new.self.link)) in
    let completes = logout_completes command c.requires.logout c.answer_alone-uses.result c.deref.result.now c.answer_alone-uses.ensures (subst (Written command) (sym c.deref.ensures.value) c.in_ok-text.ensures) in
    let at = idle_of (ends_of (g.L.Link.line c.args.self.now.wire.link) c.args.self.now.wire.heard.unread) (c.requires.idle (c.in_ok-status.ensures.was_honest honest)) in
    let a = c.in_ok-status.ensures.outcome honest in
    let old = reported a.mid in
    record {
      mid = old;
      visits = both_reported g.L.Link.visitors (g.L.Link.line c.args.self.now.wire.link).end.server a.mid a.visits;
      then =
          (left_answered command c.requires.logout old (Ok c.in_ok-status.status) c.finish.new.self.heard.read new (a.then command [] completes (at_then g.L.Link.visitors [] (g.L.Link.line c.args.self.now.wire.link) c.args.self.now.wire.heard.unread a.mid a.visits at))).1;
    }

pub returns-in-No-clause-outcome : goal.returns-in-No-clause-outcome
returns-in-No-clause-outcome g c honest =
    let command = c.args.command.now in
    let new = (reported_server (g.L.Link.line c.finish.new.self.link)) in
    let completes = logout_completes command c.requires.logout c.answer_alone-uses.result c.deref.result.now c.answer_alone-uses.ensures (subst (Written command) (sym c.deref.ensures.value) c.in_ok-text.ensures) in
    let at = idle_of (ends_of (g.L.Link.line c.args.self.now.wire.link) c.args.self.now.wire.heard.unread) (c.requires.idle (c.in_ok-status.ensures.was_honest honest)) in
    let a = c.in_ok-status.ensures.outcome honest in
    let old = reported a.mid in
    record {
      mid = old;
      visits = both_reported g.L.Link.visitors (g.L.Link.line c.args.self.now.wire.link).end.server a.mid a.visits;
      then =
          no_is_not c.in_ok-status.status c.in-No.is
          (left_answered command c.requires.logout old (Ok c.in_ok-status.status) c.finish.new.self.heard.read new (a.then command [] completes (at_then g.L.Link.visitors [] (g.L.Link.line c.args.self.now.wire.link) c.args.self.now.wire.heard.unread a.mid a.visits at))).0;
    }

pub returns-clause-outcome : goal.returns-clause-outcome
returns-clause-outcome g c honest =
    let command = c.args.command.now in
    let new = (reported_server (g.L.Link.line c.finish.new.self.link)) in
    let completes = logout_completes command c.requires.logout c.answer_alone-uses.result c.deref.result.now c.answer_alone-uses.ensures (subst (Written command) (sym c.deref.ensures.value) c.in_ok-text.ensures) in
    let at = idle_of (ends_of (g.L.Link.line c.args.self.now.wire.link) c.args.self.now.wire.heard.unread) (c.requires.idle (c.in_ok-status.ensures.was_honest honest)) in
    let a = c.in_ok-status.ensures.outcome honest in
    let old = reported a.mid in
    record {
      mid = old;
      visits = both_reported g.L.Link.visitors (g.L.Link.line c.args.self.now.wire.link).end.server a.mid a.visits;
      then =
          bad_is_not c.in_ok-status.status c.in-Bad.is
          (left_answered command c.requires.logout old (Ok c.in_ok-status.status) c.finish.new.self.heard.read new (a.then command [] completes (at_then g.L.Link.visitors [] (g.L.Link.line c.args.self.now.wire.link) c.args.self.now.wire.heard.unread a.mid a.visits at))).0;
    }

pub returns-in_err-text-clause-outcome : goal.returns-in_err-text-clause-outcome
returns-in_err-text-clause-outcome g c honest =
    let p = err_from_is_err_and c.from_residual.result c.from_residual.ensures.1 in
    unsent g.L.Link.visitors (Outcome {T = Unit {0}} (λ x. Leaves) Never Leaves) c.from_residual.result faults.NoMemory (reported_server (g.L.Link.line c.args.self.now.wire.link)) (p.1 ∙ ap Err p.2) (inl refl)
