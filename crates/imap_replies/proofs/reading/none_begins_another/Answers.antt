use Rattle.wire_reader.proofs.Lines.{line_law}
use Rattle.imap_replies.proofs.ReplyParts.{reply_part}
use Rattle.imap_replies.proofs.reading.none_begins_another.Goals as goal

pub returns : goal.returns
returns c = line_law reply_part
