use Rattle.std.proofs.Common.{[], refl, sym, ◌∙◌, ap, subst, Result, Err}
use Rattle.std.proofs.lemmas.Result.{err_from_is_err_and}
use Rattle.imap_commands.specs.Writing.{Written}
use Rattle.imap_session.specs.Lines.{reported_server}
use Rattle.imap_session.specs.Servers.{reported}
use Rattle.imap_link.proofs.Visited.{at_then, both_reported}
use Rattle.imap_session.specs.Ends.{ends_of}
use Rattle.imap_link.specs.declared.fault.FarFault.{FarFault}
use Rattle.imap_replies.specs.declared.word.Status.{Status}
use Rattle.imap_client.specs.States.{SentSo}
use Rattle.imap_client.specs.Transcripts.{EndsBy, of_any}
use Rattle.imap_client.specs.Exchanged.{AnsweredSo}
use Rattle.imap_client.proofs.Completing.{plain_completes}
use Rattle.imap_client.proofs.Still.{idle_of, still_of}
use Rattle.imap_client.proofs.Exchanging.{state_at, sent_err}
use Rattle.imap_client.proofs.Transcribed.{hearing_ends}
use Rattle.imap_link.specs.declared.fault.FarFault.TheVariants as faults
use Rattle.std.proofs.Common.{inl}
use Rattle.imap_client.proofs.Visited.{unsent}
use Rattle.imap_client.proofs.session.Session.send.Goals as goal

pub returns-in_err-status-clause-sent : goal.returns-in_err-status-clause-sent
returns-in_err-status-clause-sent g c =
    let p = err_from_is_err_and c.from_residual-in_err-status.result c.from_residual-in_err-status.ensures.1 in
    let f = c.in_err-status.field-0.0 in
    let old = state_at c.args.self.now.is_ready c.args.self.now.tags (g.L.Link.stops c.args.self.now.wire.link) c.args.self.now.wire.heard.read in
    let new = state_at c.args.self.now.is_ready c.args.self.now.tags (g.L.Link.stops c.finish.new.self.link) c.finish.new.self.heard.read in
    subst (λ (r : Result Status FarFault). SentSo c.args.command.now.tag old new r) (sym (p.1 ∙ ap Err p.2))
    (sent_err Status c.args.command.now.tag old new f c.in_err-status.ensures.known c.requires.begun (λ e. c.in_err-status.ensures.stopped (ap Err e)))

pub returns-in_err-status-clause-outcome : goal.returns-in_err-status-clause-outcome
returns-in_err-status-clause-outcome g c honest =
    let p = err_from_is_err_and c.from_residual-in_err-status.result c.from_residual-in_err-status.ensures.1 in
    let command = c.args.command.now in
    let was = c.in_err-status.ensures.was_honest honest in
    let written = subst (Written command) (sym c.deref.ensures.value) c.in_ok-text.ensures in
    let completes = plain_completes command c.of-uses.result c.deref.result.now c.of-uses.ensures c.requires.plain written in
    let at = idle_of (ends_of (g.L.Link.line c.args.self.now.wire.link) c.args.self.now.wire.heard.unread) (c.requires.idle was) in
    let new = (reported_server (g.L.Link.line c.finish.new.self.link)) in
    let heard = c.finish.new.self.heard.read in
    let a = c.in_err-status.ensures.outcome honest in
    record {
      mid = reported a.mid;
      visits = both_reported g.L.Link.visitors (g.L.Link.line c.args.self.now.wire.link).end.server a.mid a.visits;
      then =
          subst (λ (r : Result Status FarFault). AnsweredSo command (λ reported. g.S.ReplySink.took c.args.sink.now reported c.finish.new.sink) r heard (reported a.mid) new) (sym (p.1 ∙ ap Err p.2))
          (a.then command [] completes (at_then g.L.Link.visitors [] (g.L.Link.line c.args.self.now.wire.link) c.args.self.now.wire.heard.unread a.mid a.visits at));
    }

pub returns-in_err-status-clause-heard : goal.returns-in_err-status-clause-heard
returns-in_err-status-clause-heard g c =
    let p = err_from_is_err_and c.from_residual-in_err-status.result c.from_residual-in_err-status.ensures.1 in
    let heard = c.finish.new.self.heard.read in
    let transcript = c.args.self.now.transcript in
    subst (λ (r : Result Status FarFault). EndsBy (of_any heard) r transcript transcript) (sym (p.1 ∙ ap Err p.2))
    (hearing_ends Status (of_any heard) transcript transcript c.in_err-status.field-0.0 c.in_err-status.ensures.known refl)

pub returns-clause-outcome : goal.returns-clause-outcome
returns-clause-outcome g c honest =
    let command = c.args.command.now in
    let was = c.in_ok-status.ensures.was_honest honest in
    let written = subst (Written command) (sym c.deref.ensures.value) c.in_ok-text.ensures in
    let completes = plain_completes command c.of-uses.result c.deref.result.now c.of-uses.ensures c.requires.plain written in
    let at = idle_of (ends_of (g.L.Link.line c.args.self.now.wire.link) c.args.self.now.wire.heard.unread) (c.requires.idle was) in
    let a = c.in_ok-status.ensures.outcome honest in
    record {
      mid = reported a.mid;
      visits = both_reported g.L.Link.visitors (g.L.Link.line c.args.self.now.wire.link).end.server a.mid a.visits;
      then = a.then command [] completes (at_then g.L.Link.visitors [] (g.L.Link.line c.args.self.now.wire.link) c.args.self.now.wire.heard.unread a.mid a.visits at);
    }

pub returns-clause-idle : goal.returns-clause-idle
returns-clause-idle g c honest =
    let command = c.args.command.now in
    let was = c.in_ok-status.ensures.was_honest honest in
    let written = subst (Written command) (sym c.deref.ensures.value) c.in_ok-text.ensures in
    let completes = plain_completes command c.of-uses.result c.deref.result.now c.of-uses.ensures c.requires.plain written in
    let at = idle_of (ends_of (g.L.Link.line c.args.self.now.wire.link) c.args.self.now.wire.heard.unread) (c.requires.idle was) in
    still_of (ends_of (g.L.Link.line c.finish.new.self.link) c.finish.new.self.heard.unread) (c.in_ok-status.ensures.idle honest command [] completes c.requires.stays at)

pub returns-in_err-text-clause-outcome : goal.returns-in_err-text-clause-outcome
returns-in_err-text-clause-outcome g c honest =
    let p = err_from_is_err_and c.from_residual.result c.from_residual.ensures.1 in
    unsent g.L.Link.visitors (λ r. AnsweredSo c.args.command.now (λ reported. g.S.ReplySink.took c.args.sink.now reported c.args.sink.now) r c.args.self.now.wire.heard.read) c.from_residual.result faults.NoMemory (reported_server (g.L.Link.line c.args.self.now.wire.link)) (p.1 ∙ ap Err p.2) (inl refl)
