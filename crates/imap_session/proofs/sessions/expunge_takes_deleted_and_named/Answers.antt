use Rattle.imap_session.proofs.Expunging.{expunge_takes}
use Rattle.imap_session.proofs.sessions.expunge_takes_deleted_and_named.Goals as goal

pub returns : goal.returns
returns c = expunge_takes
