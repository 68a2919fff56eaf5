use Rattle.wire_reader.specs.Scanning.{up_to}
use Rattle.imap_server.proofs.LineFeeds.{waits_more, placed, scanned_on}
use Rattle.imap_server.proofs.service.Service.read_line.Goals as goal

pub read_place-requires : goal.read_place-requires
read_place-requires c = scanned_on c.args.line c.take.new.self (up_to c.in_ok-take.field-0 c.args.bytes.now) c.requires.waits c.in_ok-take.ensures.taken c.in_ok-take.ensures.scanned

pub returns-in-None-clause-ok : goal.returns-in-None-clause-ok
returns-in-None-clause-ok c =
    waits_more c.args.self.now c.args.line c.take.new.self c.args.bytes.now c.args.out.now.items c.in_ok-take.field-0 c.requires.reads c.requires.waits c.requires.some c.in-None.is
    c.in_ok-take.ensures.place c.in_ok-take.ensures.taken c.in_ok-take.ensures.scanned

pub returns-in_ok-after-in-Some-clause-ok : goal.returns-in_ok-after-in-Some-clause-ok
returns-in_ok-after-in-Some-clause-ok c =
    placed c.args.self.now c.read_place.new.self c.args.line c.take.new.self.bytes.items c.args.bytes.now c.args.out.now.items c.read_place.new.out.items c.in-Some.count c.in_ok-after-in-Some.after
    c.in_ok-take.field-0 c.requires.reads c.requires.waits c.in-Some.is c.in_ok-take.ensures.place c.in_ok-take.ensures.taken c.in_ok-after-in-Some.ensures.ok
