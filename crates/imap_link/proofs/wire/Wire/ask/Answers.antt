use Rattle.std.proofs.Common.{ap, sym, subst, Result, List, ℕ}
use Rattle.std.proofs.lemmas.Result.{err_from_is_err_and}
use Rattle.imap_session.specs.Lines.{Line}
use Rattle.imap_link.specs.ReplyBuffers.{Buffer}
use Rattle.imap_link.specs.declared.fault.FarFault.{FarFault}
use Rattle.imap_link.specs.declared.wire.LastReply.{LastReply}
use Rattle.imap_link.specs.Faults.{IsStop}
use Rattle.imap_link.specs.Buffers.{IsReported}
use Rattle.imap_link.specs.Exchanges.{AsksFor}
use Rattle.imap_link.specs.Sending.{AfterVisits, SendsThen, SomeThen, visited}
use Rattle.imap_link.specs.Sinks.{any_replies}
use Rattle.imap_link.specs.UsedReplies.{answer_alone}
use Rattle.imap_link.proofs.Exits.{stop_of, at_ok, at_err}
use Rattle.imap_link.proofs.Passing.{came_at}
use Rattle.imap_link.proofs.Late.{bounded_forgotten}
use Rattle.imap_link.proofs.Asked.{unasked, answered_so}
use Rattle.imap_link.proofs.wire.Wire.ask.Goals as goal

pub returns-in_err-send-clause-outcome : goal.returns-in_err-send-clause-outcome
returns-in_err-send-clause-outcome g c honest =
    let new : Line = g.L.Link.line c.send.new.self in
    let heard = c.args.self.now.heard.unread in
    let coming = c.forget.new.self.unread in
    let p = err_from_is_err_and c.from_residual.result c.from_residual.ensures.1 in
    let stop : IsStop p.0 = subst IsStop (sym p.2) (stop_of c.in_err-send.field-0.0) in
    let some : SomeThen g.L.Link.visitors (g.L.Link.line c.args.self.now.link) c.args.front.now new.end.server = c.in_err-send.ensures.err honest in
    record {
      mid = some.mid;
      visits = some.visits;
      then =
          subst (λ (r : Result LastReply FarFault). AsksFor c.args.front.now r (visited (g.L.Link.line c.args.self.now.link) some.mid) heard new coming) (sym p.1)
          (unasked c.args.front.now p.0 (visited (g.L.Link.line c.args.self.now.link) some.mid) new heard coming stop some.then);
    }

pub returns-clause-outcome : goal.returns-clause-outcome
returns-clause-outcome g c honest =
    let was = c.wait.ensures.was_honest honest in
    let heard = c.forget.new.self.unread in
    let first : SendsThen g.L.Link.visitors c.args.front.now (g.L.Link.line c.args.self.now.link) (g.L.Link.line c.send.new.self) = c.in_ok-send.ensures.ok was in
    subst (λ (l : List ℕ). AfterVisits g.L.Link.visitors (λ line. AsksFor c.args.front.now c.wait.result line l (g.L.Link.line c.wait.new.self.link) c.wait.new.self.heard.unread) (g.L.Link.line c.args.self.now.link))
    (ap (λ (b : Buffer). b.unread) c.forget.ensures) (record {
      mid = first.mid;
      visits = first.visits;
      then =
          answered_so c.answer_alone.result any_replies c.args.tag.now c.args.front.now c.wait.result (visited (g.L.Link.line c.args.self.now.link) first.mid) (g.L.Link.line c.send.new.self) (g.L.Link.line c.wait.new.self.link)
          heard c.wait.new.self.heard.read c.wait.new.self.heard.unread first.then (c.wait.ensures.quiet honest)
          (λ reported e. came_at c.answer_alone.result any_replies (IsReported c.args.tag.now reported) c.wait.new.self.heard.read (g.L.Link.honest c.wait.new.self.link) _ (at_ok _ c.wait.result reported c.wait.ensures.came e) honest)
          (λ y e expects. at_err _ c.wait.result y c.wait.ensures.fault e honest expects);
    })

pub returns-in_err-send-clause-bounded : goal.returns-in_err-send-clause-bounded
returns-in_err-send-clause-bounded g c = bounded_forgotten answer_alone c.args.self.now.heard c.forget.new.self c.forget.ensures
