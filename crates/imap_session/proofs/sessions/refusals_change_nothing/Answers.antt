use Rattle.imap_session.proofs.Refusing.{does_fine}
use Rattle.imap_session.proofs.sessions.refusals_change_nothing.Goals as goal

pub returns : goal.returns
returns c = does_fine
