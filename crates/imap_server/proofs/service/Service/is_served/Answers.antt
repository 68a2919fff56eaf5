use Rattle.std.proofs.Common.{subst}
use Rattle.imap_session.specs.Servers.{Server}
use Rattle.imap_session.specs.Boxes.{AreServed}
use Rattle.imap_server.proofs.service.Service.is_served.Goals as goal

pub returns : goal.returns
returns c = subst (λ (s : Server). AreServed s.mailboxes) c.self.view_is c.self.invariant
