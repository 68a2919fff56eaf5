use Rattle.imap_client.proofs.Removing.{swept_is_deleted}
use Rattle.imap_client.proofs.laws.swept_is_deleted.Goals as goal

pub returns : goal.returns
returns c = swept_is_deleted
