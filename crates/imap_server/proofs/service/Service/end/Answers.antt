use Rattle.std.proofs.Common.{◌∙◌, ap}
use Rattle.imap_session.specs.Servers.{Server, LoggedOut, news}
use Rattle.imap_server.proofs.WritingLemmas.{wrote_then}
use Rattle.imap_server.proofs.service.Service.end.Goals as goal

pub returns-clause-ok : goal.returns-clause-ok
returns-clause-ok c = (
  c.nothing.ensures,
  record {
    wrote = wrote_then (news c.args.self.now) _ _ _ _ c.in_ok-say_news.ensures c.in_ok-say_bye.ensures;
    after_is = c.enter.ensures ∙ ap (λ (s : Server). record s { condition = LoggedOut }) c.set_news.ensures;
  },
)
