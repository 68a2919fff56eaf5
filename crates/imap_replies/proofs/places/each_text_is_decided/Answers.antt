use Rattle.wire_reader.proofs.PlaceLaws.{decided_law}
use Rattle.imap_replies.proofs.ReplyParts.{reply_part}
use Rattle.imap_replies.proofs.places.each_text_is_decided.Goals as goal

pub returns : goal.returns
returns c = decided_law reply_part
