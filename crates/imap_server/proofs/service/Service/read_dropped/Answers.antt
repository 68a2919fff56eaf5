use Rattle.imap_server.proofs.DropFeeds.{passed_some, passed_on}
use Rattle.imap_server.proofs.service.Service.read_dropped.Goals as goal

pub returns-in_ok-after-in-Some-clause-ok : goal.returns-in_ok-after-in-Some-clause-ok
returns-in_ok-after-in-Some-clause-ok c =
    passed_some c.args.self.now c.end_line.new.self c.args.dropped c.pass.new.self c.args.bytes.now c.args.out.now.items c.end_line.new.out.items c.in-Some.count c.in_ok-after-in-Some.after
    c.requires.reads c.in-Some.ensures.count c.in-Some.ensures.passes c.in-Some.ensures.same c.in_ok-after-in-Some.ensures.ok.0 c.in_ok-after-in-Some.ensures.ok.1

pub returns-in-None-clause-ok : goal.returns-in-None-clause-ok
returns-in-None-clause-ok c =
    passed_on c.args.self.now c.args.dropped c.pass.new.self c.args.bytes.now c.args.out.now.items c.requires.some c.requires.reads c.in-None.ensures.passes c.in-None.ensures.same
