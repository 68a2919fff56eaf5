use Rattle.imap_replies.proofs.RepliesFit.{reply_few}
use Rattle.imap_replies.proofs.writing.written_replies_fit.Goals as goal

pub returns : goal.returns
returns c = reply_few
