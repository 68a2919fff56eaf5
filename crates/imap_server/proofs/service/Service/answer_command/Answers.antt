use Rattle.std.proofs.Common.{◌++◌, refl, subst}
use Rattle.imap_session.specs.Servers.{Server, news, reported}
use Rattle.imap_session.specs.Portions.{Asks}
use Rattle.imap_session.specs.Short.{AreNamed}
use Rattle.imap_session.proofs.ShortReplies.{short_append, news_short, does_short}
use Rattle.imap_server.proofs.WritingLemmas.{wrote_then}
use Rattle.imap_server.proofs.HostLemmas.{are_named}
use Rattle.imap_server.proofs.service.Service.answer_command.Goals as goal

pub returns-clause-ok : goal.returns-clause-ok
returns-clause-ok c =
    let a = c.in_ok-answer_reported.ensures.ok in
    let named : AreNamed c.args.self.now.mailboxes = subst (λ (s : Server). AreNamed s.mailboxes) c.self.view_is (are_named _ c.self.invariant) in (
      (c.new.ensures.empty, c.new.ensures.start),
      record {
        replies = news c.args.self.now ++ a.replies;
        wrote = wrote_then _ a.replies _ _ _ c.in_ok-say_news.ensures a.wrote;
        gives_them = (
          record { own = a.replies; does = a.gives_them; replies_are = refl },
          short_append (news c.args.self.now) a.replies (news_short c.args.self.now)
              (does_short (reported c.args.self.now) c.answer_reported.new.self (Asks c.args.command) a.replies c.has_map.ensures named a.gives_them),
        );
      },
    )
