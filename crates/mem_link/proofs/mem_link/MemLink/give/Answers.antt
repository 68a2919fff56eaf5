use Rattle.std.proofs.Common.{sym, subst}
use Rattle.imap_server.specs.Taking.{Host}
use Rattle.imap_session.specs.Lines.{Sends}
use Rattle.mem_link.specs.MemLines.{line_at}
use Rattle.mem_link.specs.Losing.{SendsAll}
use Rattle.mem_link.proofs.Giving.{sends_all, sends_of, some_of_closed}
use Rattle.mem_link.proofs.mem_link.MemLink.give.Goals as goal

pub returns-in-Ok-hear-clause-ok : goal.returns-in-Ok-hear-clause-ok
returns-in-Ok-hear-clause-ok c =
    let old = c.args.self.now in
    subst (λ (host : Host). Sends c.args.bytes.now (line_at old.server old.unread) (line_at host c.hear.new.self.unread)) (sym c.hear.ensures.server)
    (sends_of old.server c.feed.new.self c.args.bytes.now c.in-Ok.answer.items old.unread c.hear.new.self.unread c.in-Ok.ensures.ok c.in-Ok-hear.ensures.heard)

pub returns-in-Ok-hear-clause-all : goal.returns-in-Ok-hear-clause-all
returns-in-Ok-hear-clause-all c loses_nothing =
    let old = c.args.self.now in
    subst (λ (host : Host). SendsAll c.args.bytes.now (line_at old.server old.unread) (line_at host c.hear.new.self.unread)) (sym c.hear.ensures.server)
    (sends_all old.server c.feed.new.self c.args.bytes.now c.in-Ok.answer.items old.unread c.hear.new.self.unread c.in-Ok.ensures.ok (c.in-Ok-hear.ensures.all (record { schedule = loses_nothing.schedule; piece = loses_nothing.piece })))

pub returns-in-Err-Closed-clause-err : goal.returns-in-Err-Closed-clause-err
returns-in-Err-Closed-clause-err c =
    some_of_closed c.args.self.now.server c.feed.new.self c.args.bytes.now c.feed.result c.in-Err-Closed.field-0 c.stop.new.self.server.server
    c.in-Err-Closed.is c.in-Err-Closed.field-0-is c.feed.ensures.closed c.stop.ensures.server
