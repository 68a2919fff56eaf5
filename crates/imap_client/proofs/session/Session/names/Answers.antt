use Rattle.imap_client.proofs.Naming.{names_within}
use Rattle.imap_client.proofs.session.Session.names.Goals as goal

pub returns-clause-limits : goal.returns-clause-limits
returns-clause-limits g c = names_within _ c.deref.result.now c.in_ok-names.ensures
