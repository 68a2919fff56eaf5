use Rattle.std.proofs.Common.{sym, ◌∙◌, ap, subst, Result, Ok, Err}
use Rattle.std.proofs.lemmas.Result.{err_from_is_err_and}
use Rattle.imap_session.specs.Lines.{Line}
use Rattle.imap_link.specs.declared.fault.FarFault.{FarFault}
use Rattle.imap_client.specs.Appending.{WaitsOr}
use Rattle.imap_client.proofs.Offering.{asks_so, waits_err, go_waits, no_answer}
use Rattle.imap_link.specs.Sending.{visited}
use Rattle.imap_client.proofs.Visited.{still_then}
use Rattle.imap_client.proofs.session.Session.offer.Goals as goal

pub returns-in_err-ask-clause-outcome : goal.returns-in_err-ask-clause-outcome
returns-in_err-ask-clause-outcome g c honest =
    let p = err_from_is_err_and c.from_residual.result c.from_residual.ensures.1 in
    let f = c.in_err-ask.field-0.0 in
    let front = c.args.front.now in
    let new = g.L.Link.line c.ask.new.self.link in
    let heard = c.ask.new.self.heard.unread in
    let still = c.requires.idle (c.in_err-ask.ensures.was_honest honest) in
    let a = c.in_err-ask.ensures.outcome honest in
    record {
      mid = a.mid;
      visits = a.visits;
      then = λ rest command is.
          let old = visited (g.L.Link.line c.args.self.now.wire.link) a.mid in
          let was = c.args.self.now.wire.heard.unread in
          subst (λ (r : Result (Unit {0}) FarFault). WaitsOr command front r old new heard) (sym (p.1 ∙ ap Err p.2))
          (waits_err command front old new heard (Unit {0}) f (asks_so command c.args.tag.now front rest is (Err f) old was new heard (still_then g.L.Link.visitors (g.L.Link.line c.args.self.now.wire.link) was a.mid a.visits still) a.then));
    }

pub judge-requires-clause-idle : goal.judge-requires-clause-idle
judge-requires-clause-idle g c honest =
    let front = c.args.front.now in
    let new = g.L.Link.line c.ask.new.self.link in
    let heard = c.ask.new.self.heard.unread in
    let was = c.args.self.now.wire.heard.unread in
    let one = c.requires.front.is in
    let a = c.in_ok-ask.ensures.outcome honest in
    let old = visited (g.L.Link.line c.args.self.now.wire.link) a.mid in
    let still = still_then g.L.Link.visitors (g.L.Link.line c.args.self.now.wire.link) was a.mid a.visits (c.requires.idle (c.in_ok-ask.ensures.was_honest honest)) in
    absurd (no_answer one.command front old new heard c.in_ok-ask.field-0 c.in-Answer.status c.in-Answer.is
    (asks_so one.command c.args.tag.now front c.requires.front.rest one.is (Ok c.in_ok-ask.field-0) old was new heard still a.then))

pub returns-in_err-judge-in-Answer-clause-outcome : goal.returns-in_err-judge-in-Answer-clause-outcome
returns-in_err-judge-in-Answer-clause-outcome g c late =
    let honest = subst (λ w. g.L.Link.honest w.link) c.judge.ensures.wire late in
    let front = c.args.front.now in
    let new = g.L.Link.line c.ask.new.self.link in
    let heard = c.ask.new.self.heard.unread in
    let was = c.args.self.now.wire.heard.unread in
    let a = c.in_ok-ask.ensures.outcome honest in
    let old = visited (g.L.Link.line c.args.self.now.wire.link) a.mid in
    let still = still_then g.L.Link.visitors (g.L.Link.line c.args.self.now.wire.link) was a.mid a.visits (c.requires.idle (c.in_ok-ask.ensures.was_honest honest)) in
    record {
      mid = a.mid;
      visits = a.visits;
      then = λ rest command is.
          absurd (no_answer command front old new heard c.in_ok-ask.field-0 c.in-Answer.status c.in-Answer.is
          (asks_so command c.args.tag.now front rest is (Ok c.in_ok-ask.field-0) old was new heard still a.then));
    }

pub returns-in_ok-judge-in-Answer-clause-outcome : goal.returns-in_ok-judge-in-Answer-clause-outcome
returns-in_ok-judge-in-Answer-clause-outcome g c late =
    let honest = subst (λ w. g.L.Link.honest w.link) c.judge.ensures.wire late in
    let front = c.args.front.now in
    let new = g.L.Link.line c.ask.new.self.link in
    let heard = c.ask.new.self.heard.unread in
    let was = c.args.self.now.wire.heard.unread in
    let a = c.in_ok-ask.ensures.outcome honest in
    let old = visited (g.L.Link.line c.args.self.now.wire.link) a.mid in
    let still = still_then g.L.Link.visitors (g.L.Link.line c.args.self.now.wire.link) was a.mid a.visits (c.requires.idle (c.in_ok-ask.ensures.was_honest honest)) in
    record {
      mid = a.mid;
      visits = a.visits;
      then = λ rest command is.
          no_answer command front old new heard c.in_ok-ask.field-0 c.in-Answer.status c.in-Answer.is
          (asks_so command c.args.tag.now front rest is (Ok c.in_ok-ask.field-0) old was new heard still a.then);
    }

pub returns-in-Go-clause-outcome : goal.returns-in-Go-clause-outcome
returns-in-Go-clause-outcome g c honest =
    let front = c.args.front.now in
    let begin : Line = g.L.Link.line c.args.self.now.wire.link in
    let new = g.L.Link.line c.ask.new.self.link in
    let heard = c.ask.new.self.heard.unread in
    let was = c.args.self.now.wire.heard.unread in
    let a = c.in_ok-ask.ensures.outcome honest in
    let old = visited begin a.mid in
    let still = still_then g.L.Link.visitors begin was a.mid a.visits (c.requires.idle (c.in_ok-ask.ensures.was_honest honest)) in
    record {
      mid = a.mid;
      visits = a.visits;
      then = λ rest command is.
          let waits = go_waits command front old new heard c.in_ok-ask.field-0 c.in-Go.is
          (asks_so command c.args.tag.now front rest is (Ok c.in_ok-ask.field-0) old was new heard still a.then) in
          (waits.quiet, waits.at);
    }
