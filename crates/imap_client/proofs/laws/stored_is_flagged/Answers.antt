use Rattle.imap_client.proofs.Flagging.{stored_is_flagged}
use Rattle.imap_client.proofs.laws.stored_is_flagged.Goals as goal

pub returns : goal.returns
returns c = stored_is_flagged
