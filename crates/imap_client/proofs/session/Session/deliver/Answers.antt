use Rattle.std.proofs.Common.{◌++◌, sym, ◌∙◌, ap, subst, Result, Err, OnOk}
use Rattle.std.proofs.lemmas.Result.{err_from_is_err_and}
use Rattle.mailcore.specs.CopyPieces.{text_left}
use Rattle.wire_reader.specs.Spelling.{crlf}
use Rattle.imap_commands.specs.declared.command.Command.{Command}
use Rattle.imap_session.specs.Lines.{reported_server}
use Rattle.imap_session.specs.Ends.{ends_of}
use Rattle.imap_link.specs.declared.fault.FarFault.{FarFault}
use Rattle.imap_replies.specs.declared.word.Status.{Status}
use Rattle.imap_link.specs.Buffers.{IsAnswerText}
use Rattle.imap_link.specs.Exchanges.{Performs, Replied}
use Rattle.imap_link.specs.Outcomes.{Never}
use Rattle.imap_client.specs.Appending.{InTwo}
use Rattle.imap_client.specs.Stillness.{IsStill}
use Rattle.imap_client.specs.Exchanged.{Exchanged}
use Rattle.imap_client.proofs.Changed.{outcome_err}
use Rattle.imap_client.proofs.Exchanging.{exchanged_err, exchanged_of, judged_ok, on_ok_always}
use Rattle.imap_client.proofs.Offering.{completes}
use Rattle.imap_client.proofs.Still.{still_of}
use Rattle.imap_session.specs.Servers.{reported}
use Rattle.imap_session.specs.Visits.{Among}
use Rattle.imap_link.proofs.Visited.{at_then, both_reported}
use Rattle.imap_client.proofs.Visited.{two_visits}
use Rattle.imap_link.specs.Sinks.{any_replies}
use Rattle.imap_client.proofs.session.Session.deliver.Goals as goal

pub returns-in_err-offer-clause-outcome : goal.returns-in_err-offer-clause-outcome
returns-in_err-offer-clause-outcome g c honest command is =
    let p = err_from_is_err_and c.from_residual.result c.from_residual.ensures.1 in
    let f = c.in_err-offer.field-0.0 in
    let new = (reported_server (g.L.Link.line c.offer.new.self.wire.link)) in
    let heard = c.offer.new.self.wire.heard.read in
    let a = c.in_err-offer.ensures.outcome honest in
    let old = reported a.mid in
    record {
      mid = old;
      visits = both_reported g.L.Link.visitors (g.L.Link.line c.args.self.now.wire.link).end.server a.mid a.visits;
      then =
          subst (λ (r : Result (Unit {0}) FarFault). Exchanged command any_replies r heard old new) (sym (p.1 ∙ ap Err p.2))
          (exchanged_err any_replies command (λ a. Never) f heard old new
          (outcome_err (Unit {0}) Status (λ a. Never) (λ a. Never) Never (Performs command) old new f (a.then (text_left c.args.octets ++ crlf) command is)));
    }

pub returns-in_err-status-clause-outcome : goal.returns-in_err-status-clause-outcome
returns-in_err-status-clause-outcome g c honest command is =
    let p = err_from_is_err_and c.from_residual-in_err-status.result c.from_residual-in_err-status.ensures.1 in
    let f = c.in_err-status.field-0.0 in
    let begin = g.L.Link.line c.args.self.now.wire.link in
    let offered = g.L.Link.line c.offer.new.self.wire.link in
    let new = (reported_server (g.L.Link.line c.finish_copy.new.self.link)) in
    let heard = c.finish_copy.new.self.heard.read in
    let first = c.in_ok-offer.ensures.outcome (c.in_err-status.ensures.was_honest honest) in
    let waits = first.then (text_left c.args.octets ++ crlf) command is in
    let a = c.in_err-status.ensures.outcome honest in
    let mid = reported a.mid in
    record {
      mid = mid;
      visits = two_visits g.L.Link.visitors begin offered first.mid a.mid first.visits waits.0 a.visits;
      then =
          subst (λ (r : Result (Unit {0}) FarFault). Exchanged command any_replies r heard mid new) (sym (p.1 ∙ ap Err p.2))
          (exchanged_err any_replies command (λ status. Replied command status any_replies heard) f heard mid new
          (a.then command c.args.front.now (completes command c.args.tag.now c.args.front.now (text_left c.args.octets ++ crlf) is c.answer_alone.result c.answer_alone.ensures)
          (at_then g.L.Link.visitors c.args.front.now offered c.offer.new.self.wire.heard.unread a.mid a.visits waits.1)));
    }

pub judge-requires-clause-idle : goal.judge-requires-clause-idle
judge-requires-clause-idle g c honest =
    let one = c.requires.parts in
    let first = c.in_ok-offer.ensures.outcome (c.in_ok-status.ensures.was_honest honest) in
    let waits = first.then (text_left c.args.octets ++ crlf) one.command one.is in
    still_of (ends_of (g.L.Link.line c.finish_copy.new.self.link) c.finish_copy.new.self.heard.unread)
    (c.in_ok-status.ensures.idle honest one.command c.args.front.now (completes one.command c.args.tag.now c.args.front.now (text_left c.args.octets ++ crlf) one.is c.answer_alone.result c.answer_alone.ensures) one.is.stays waits.1)

pub returns-clause-outcome : goal.returns-clause-outcome
returns-clause-outcome g c =
    let begin = g.L.Link.line c.args.self.now.wire.link in
    subst (λ w. g.L.Link.honest w.link → (command : Command) → InTwo c.args.tag.now c.args.front.now (text_left c.args.octets ++ crlf) command → Among g.L.Link.visitors (Exchanged command any_replies c.judge.result w.heard.read) (reported_server begin) (reported_server (g.L.Link.line w.link))) (sym c.judge.ensures.wire)
    (λ honest command is.
    let offered = g.L.Link.line c.offer.new.self.wire.link in
    let new = (reported_server (g.L.Link.line c.finish_copy.new.self.link)) in
    let first = c.in_ok-offer.ensures.outcome (c.in_ok-status.ensures.was_honest honest) in
    let waits = first.then (text_left c.args.octets ++ crlf) command is in
    let a = c.in_ok-status.ensures.outcome honest in
    let mid = reported a.mid in
    record {
      mid = mid;
      visits = two_visits g.L.Link.visitors begin offered first.mid a.mid first.visits waits.0 a.visits;
      then =
          exchanged_of any_replies command c.in_ok-status.status c.finish_copy.new.self.heard.read mid new
          (a.then command c.args.front.now (completes command c.args.tag.now c.args.front.now (text_left c.args.octets ++ crlf) is c.answer_alone.result c.answer_alone.ensures)
          (at_then g.L.Link.visitors c.args.front.now offered c.offer.new.self.wire.heard.unread a.mid a.visits waits.1))
          c.judge.new.self.is_ready c.judge.result c.judge.ensures.judged;
    })

pub returns-clause-answer : goal.returns-clause-answer
returns-clause-answer g c =
    subst (λ w. OnOk c.judge.result (IsAnswerText c.args.tag.now _ w.heard.read)) (sym c.judge.ensures.wire)
    (judged_ok c.in_ok-status.status c.judge.new.self.is_ready c.judge.result c.judge.ensures.judged (λ s. IsAnswerText c.args.tag.now s c.finish_copy.new.self.heard.read) c.in_ok-status.ensures.answer)

pub returns-clause-idle : goal.returns-clause-idle
returns-clause-idle g c =
    on_ok_always c.judge.result (subst (λ w. g.L.Link.honest w.link → IsStill (ends_of (g.L.Link.line w.link) w.heard.unread)) (sym c.judge.ensures.wire) (λ honest.
    let one = c.requires.parts in
    let first = c.in_ok-offer.ensures.outcome (c.in_ok-status.ensures.was_honest honest) in
    let waits = first.then (text_left c.args.octets ++ crlf) one.command one.is in
    still_of (ends_of (g.L.Link.line c.finish_copy.new.self.link) c.finish_copy.new.self.heard.unread)
    (c.in_ok-status.ensures.idle honest one.command c.args.front.now (completes one.command c.args.tag.now c.args.front.now (text_left c.args.octets ++ crlf) one.is c.answer_alone.result c.answer_alone.ensures) one.is.stays waits.1)))
