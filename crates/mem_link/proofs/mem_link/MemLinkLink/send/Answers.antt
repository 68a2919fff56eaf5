use Rattle.std.proofs.Common.{refl, take}
use Rattle.mem_link.specs.MemLinks.{line_of}
use Rattle.mem_link.proofs.Giving.{some_of_front, some_of_sends, on_err}
use Rattle.mem_link.proofs.Visiting.{nobody_feeds}
use Rattle.mem_link.proofs.mem_link.MemLinkLink.send.Goals as goal

pub returns-in_err-give-in-Some-clause-feeds : goal.returns-in_err-give-in-Some-clause-feeds
returns-in_err-give-in-Some-clause-feeds c =
    on_err c.from_residual.result (some_of_front (line_of c.args.self.now) (line_of c.begin.new.self) c.give-in-Some.new.self.server.server c.give-in-Some.new.self.server.server c.args.bytes.now c.in-Some.front
    c.begin.ensures.line refl c.in_err-give-in-Some.ensures.err)

pub returns-in_ok-give-in-Some-clause-feeds : goal.returns-in_ok-give-in-Some-clause-feeds
returns-in_ok-give-in-Some-clause-feeds c =
    some_of_front (line_of c.args.self.now) (line_of c.begin.new.self) c.give-in-Some.new.self.server.server c.stop.new.self.server.server c.args.bytes.now c.in-Some.front
    c.begin.ensures.line c.stop.ensures.server
    (some_of_sends (line_of c.begin.new.self) (line_of c.give-in-Some.new.self) (take c.in-Some.front c.args.bytes.now) c.in_ok-give-in-Some.ensures.ok)

pub returns-in_err-give-in-Some-clause-err : goal.returns-in_err-give-in-Some-clause-err
returns-in_err-give-in-Some-clause-err c =
    on_err c.from_residual.result (nobody_feeds c.args.bytes.now (line_of c.args.self.now) c.give-in-Some.new.self.server.server
    (some_of_front (line_of c.args.self.now) (line_of c.begin.new.self) c.give-in-Some.new.self.server.server c.give-in-Some.new.self.server.server c.args.bytes.now c.in-Some.front
    c.begin.ensures.line refl c.in_err-give-in-Some.ensures.err))

pub returns-in_ok-give-in-Some-clause-err : goal.returns-in_ok-give-in-Some-clause-err
returns-in_ok-give-in-Some-clause-err c =
    nobody_feeds c.args.bytes.now (line_of c.args.self.now) c.stop.new.self.server.server
    (some_of_front (line_of c.args.self.now) (line_of c.begin.new.self) c.give-in-Some.new.self.server.server c.stop.new.self.server.server c.args.bytes.now c.in-Some.front
    c.begin.ensures.line c.stop.ensures.server
    (some_of_sends (line_of c.begin.new.self) (line_of c.give-in-Some.new.self) (take c.in-Some.front c.args.bytes.now) c.in_ok-give-in-Some.ensures.ok))
