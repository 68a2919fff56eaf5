use Rattle.imap_session.proofs.Sent.{half_sent}
use Rattle.imap_session.proofs.exchanges.stopped_is_half.Goals as goal

pub returns : goal.returns
returns c = half_sent
