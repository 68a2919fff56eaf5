use Rattle.std.proofs.Common.{ap, sym, subst, Result, Ok, Err, List, ℕ, ◌++◌}
use Rattle.std.proofs.lemmas.Result.{err_from_is_err_and}
use Rattle.mailcore.specs.CopyPieces.{text_left}
use Rattle.wire_reader.specs.Spelling.{crlf}
use Rattle.imap_replies.specs.declared.word.Status.{Status}
use Rattle.imap_session.specs.Lines.{Line}
use Rattle.imap_session.specs.Ends.{ends_of}
use Rattle.imap_link.specs.ReplyBuffers.{Buffer}
use Rattle.imap_link.specs.declared.fault.FarFault.{FarFault}
use Rattle.imap_link.specs.declared.fault.FarFault.TheVariants.{Protocol}
use Rattle.imap_link.specs.declared.wire.LastReply.TheVariants as states
use Rattle.imap_link.specs.Faults.{IsStop}
use Rattle.imap_link.specs.Exchanges.{Exchanges, StaysIdle}
use Rattle.imap_link.specs.Sending.{AfterVisits, SendsThen, SomeThen, visited}
use Rattle.imap_link.specs.Sinks.{any_replies}
use Rattle.imap_link.proofs.Visited.{at_then}
use Rattle.imap_link.proofs.Exits.{stop_of}
use Rattle.imap_link.proofs.Passing.{came_reported}
use Rattle.imap_link.proofs.Late.{bounded_forgotten}
use Rattle.imap_link.proofs.Finished.{unsent, unheard, replied, idle, no_go}
use Rattle.imap_link.proofs.wire.Wire.finish_copy.Goals as goal

pub returns-in_err-send_copy-clause-outcome : goal.returns-in_err-send_copy-clause-outcome
returns-in_err-send_copy-clause-outcome g c honest =
    let new : Line = g.L.Link.line c.send_copy.new.self in
    let heard = c.args.self.now.heard.unread in
    let p = err_from_is_err_and c.from_residual.result c.from_residual.ensures.1 in
    let stop : IsStop p.0 = subst IsStop (sym p.2) (stop_of c.in_err-send_copy.field-0.0) in
    let some : SomeThen g.L.Link.visitors (g.L.Link.line c.args.self.now.link) (text_left c.args.copy ++ crlf) new.end.server = c.in_err-send_copy.ensures.err honest in
    let old = visited (g.L.Link.line c.args.self.now.link) some.mid in
    record {
      mid = some.mid;
      visits = some.visits;
      then =
          subst (λ (r : Result Status FarFault). Exchanges c.args.uses c.args.tag.now (text_left c.args.copy ++ crlf) any_replies r old heard new c.forget.new.self.read) (sym p.1)
          (unsent c.args.uses c.args.tag.now (text_left c.args.copy ++ crlf) any_replies p.0 old new heard c.forget.new.self.read stop some.then);
    }

pub returns-in_err-send_copy-clause-bounded : goal.returns-in_err-send_copy-clause-bounded
returns-in_err-send_copy-clause-bounded g c = bounded_forgotten c.args.uses c.args.self.now.heard c.forget.new.self c.forget.ensures

pub returns-in_err-status-clause-outcome : goal.returns-in_err-status-clause-outcome
returns-in_err-status-clause-outcome g c honest =
    let mid = g.L.Link.line c.send_copy.new.self in
    let new = g.L.Link.line c.wait.new.self.link in
    let heard = c.forget.new.self.unread in
    let read = c.wait.new.self.heard.read in
    let p = err_from_is_err_and c.from_residual-in_err-status.result c.from_residual-in_err-status.ensures.1 in
    let was = c.in_err-status.ensures.was_honest honest in
    let first : SendsThen g.L.Link.visitors (text_left c.args.copy ++ crlf) (g.L.Link.line c.args.self.now.link) (g.L.Link.line c.send_copy.new.self) = c.in_ok-send_copy.ensures.ok was in
    let old = visited (g.L.Link.line c.args.self.now.link) first.mid in
    subst (λ (l : List ℕ). AfterVisits g.L.Link.visitors (λ line. Exchanges c.args.uses c.args.tag.now (text_left c.args.copy ++ crlf) any_replies c.from_residual-in_err-status.result line l new read) (g.L.Link.line c.args.self.now.link))
    (ap (λ (b : Buffer). b.unread) c.forget.ensures) (record {
      mid = first.mid;
      visits = first.visits;
      then =
          subst (λ (r : Result Status FarFault). Exchanges c.args.uses c.args.tag.now (text_left c.args.copy ++ crlf) any_replies r old heard new read) (sym p.1)
          (unheard c.args.uses c.args.tag.now (text_left c.args.copy ++ crlf) any_replies p.0 old mid new heard read first.then (c.in_err-status.ensures.quiet honest)
          (λ expects. subst IsStop (sym p.2) (c.in_err-status.ensures.fault honest expects)));
    })

pub returns-in-Answer-clause-outcome : goal.returns-in-Answer-clause-outcome
returns-in-Answer-clause-outcome g c honest =
    let mid = g.L.Link.line c.send_copy.new.self in
    let new = g.L.Link.line c.wait.new.self.link in
    let heard = c.forget.new.self.unread in
    let read = c.wait.new.self.heard.read in
    let coming = c.wait.new.self.heard.unread in
    let was = c.in_ok-status.ensures.was_honest honest in
    let came = came_reported c.args.uses any_replies c.args.tag.now _ (states.Answer c.in-Answer.status) read (g.L.Link.honest c.wait.new.self.link) (ends_of mid heard) (ends_of new coming) c.in-Answer.is c.in_ok-status.ensures.came honest in
    let first : SendsThen g.L.Link.visitors (text_left c.args.copy ++ crlf) (g.L.Link.line c.args.self.now.link) (g.L.Link.line c.send_copy.new.self) = c.in_ok-send_copy.ensures.ok was in
    let old = visited (g.L.Link.line c.args.self.now.link) first.mid in
    subst (λ (l : List ℕ). AfterVisits g.L.Link.visitors (λ line. Exchanges c.args.uses c.args.tag.now (text_left c.args.copy ++ crlf) any_replies (Ok c.in-Answer.status) line l new read) (g.L.Link.line c.args.self.now.link))
    (ap (λ (b : Buffer). b.unread) c.forget.ensures) (record {
      mid = first.mid;
      visits = first.visits;
      then = λ command from w at. replied command c.args.uses c.args.tag.now from (text_left c.args.copy ++ crlf) w old mid new heard at first.then any_replies read coming c.in-Answer.status came;
    })

pub returns-in-Answer-clause-idle : goal.returns-in-Answer-clause-idle
returns-in-Answer-clause-idle g c honest =
    let mid = g.L.Link.line c.send_copy.new.self in
    let new = g.L.Link.line c.wait.new.self.link in
    let heard = c.forget.new.self.unread in
    let read = c.wait.new.self.heard.read in
    let coming = c.wait.new.self.heard.unread in
    let was = c.in_ok-status.ensures.was_honest honest in
    let came = came_reported c.args.uses any_replies c.args.tag.now _ (states.Answer c.in-Answer.status) read (g.L.Link.honest c.wait.new.self.link) (ends_of mid heard) (ends_of new coming) c.in-Answer.is c.in_ok-status.ensures.came honest in
    let first : SendsThen g.L.Link.visitors (text_left c.args.copy ++ crlf) (g.L.Link.line c.args.self.now.link) (g.L.Link.line c.send_copy.new.self) = c.in_ok-send_copy.ensures.ok was in
    subst (λ (l : List ℕ). StaysIdle c.args.uses c.args.tag.now (text_left c.args.copy ++ crlf) (g.L.Link.line c.args.self.now.link) l new coming) (ap (λ (b : Buffer). b.unread) c.forget.ensures) (λ command from w stays at.
    let was_at = at_then g.L.Link.visitors from (g.L.Link.line c.args.self.now.link) heard first.mid first.visits at in
    idle command c.args.uses c.args.tag.now from (text_left c.args.copy ++ crlf) w (visited (g.L.Link.line c.args.self.now.link) first.mid) mid new heard was_at first.then any_replies read coming c.in-Answer.status came stays)

pub returns-in-Go-clause-outcome : goal.returns-in-Go-clause-outcome
returns-in-Go-clause-outcome g c honest =
    let mid = g.L.Link.line c.send_copy.new.self in
    let new = g.L.Link.line c.wait.new.self.link in
    let heard = c.forget.new.self.unread in
    let read = c.wait.new.self.heard.read in
    let coming = c.wait.new.self.heard.unread in
    let was = c.in_ok-status.ensures.was_honest honest in
    let came = came_reported c.args.uses any_replies c.args.tag.now _ states.Go read (g.L.Link.honest c.wait.new.self.link) (ends_of mid heard) (ends_of new coming) c.in-Go.is c.in_ok-status.ensures.came honest in
    let first : SendsThen g.L.Link.visitors (text_left c.args.copy ++ crlf) (g.L.Link.line c.args.self.now.link) (g.L.Link.line c.send_copy.new.self) = c.in_ok-send_copy.ensures.ok was in
    let old = visited (g.L.Link.line c.args.self.now.link) first.mid in
    subst (λ (l : List ℕ). AfterVisits g.L.Link.visitors (λ line. Exchanges c.args.uses c.args.tag.now (text_left c.args.copy ++ crlf) any_replies (Err Protocol) line l new read) (g.L.Link.line c.args.self.now.link))
    (ap (λ (b : Buffer). b.unread) c.forget.ensures) (record {
      mid = first.mid;
      visits = first.visits;
      then = λ command from w at. no_go command c.args.uses c.args.tag.now from (text_left c.args.copy ++ crlf) w old mid new heard at first.then any_replies read coming came;
    })
