use Rattle.imap_link.specs.Sending.{visited}
use Rattle.mem_link.specs.MemLinks.{line_of}
use Rattle.mailcore.specs.Visitors.{others_but}
use Rattle.mem_link.proofs.Giving.{on_err, some_none}
use Rattle.mem_link.proofs.Visiting.{feeds_among, sends_among}
use Rattle.mem_link.proofs.visited_link.VisitedLinkLink.send.Goals as goal

pub returns-in_err-come-clause-err : goal.returns-in_err-come-clause-err
returns-in_err-come-clause-err g c =
    let now = c.come.new.link.server.server in
    on_err c.from_residual.result (λ all. record {
      mid = now;
      visits = c.come.ensures.visits g.O.Others.ours c.args.self.now.said;
      then = some_none (visited (line_of c.args.self.now.link) now).end c.args.bytes.now;
    })

pub returns-clause-ok : goal.returns-clause-ok
returns-clause-ok g c =
    sends_among (others_but g.O.Others.ours) c.args.bytes.now (line_of c.args.self.now.link) (line_of c.come.new.link) (line_of c.send.new.self) c.send.result
    c.in_ok-come.ensures.line (c.come.ensures.visits g.O.Others.ours c.args.self.now.said) c.send.ensures.sends

pub returns-clause-err : goal.returns-clause-err
returns-clause-err g c =
    feeds_among (others_but g.O.Others.ours) c.args.bytes.now (line_of c.args.self.now.link) (line_of c.come.new.link) c.send.new.self.server.server c.send.result
    c.in_ok-come.ensures.line (c.come.ensures.visits g.O.Others.ours c.args.self.now.said) c.send.ensures.feeds
