use Rattle.std.proofs.Common.{◌∙◌, length, sym, subst}
use Rattle.imap_session.specs.Servers.{Server}
use Rattle.imap_server.specs.Unreads.{end_of}
use Rattle.imap_server.specs.Taking.{TookSome}
use Rattle.imap_server.proofs.LineFeeds.{late_took}
use Rattle.imap_server.proofs.service.Service.read_some.Goals as goal

pub returns-then-is_over-clause-ok : goal.returns-then-is_over-clause-ok
returns-then-is_over-clause-ok c =
    let bytes = c.args.bytes.now in
    let out = c.args.out.now.items in
    subst (λ (s : Server). TookSome (end_of c.args.self.now c.args.unread) bytes out out s c.args.unread (length bytes)) (sym c.set_news.ensures)
    (late_took c.args.self.now c.args.unread bytes out c.requires.some c.requires.sound (sym c.is_over.ensures ∙ c.if-is_over.true))
