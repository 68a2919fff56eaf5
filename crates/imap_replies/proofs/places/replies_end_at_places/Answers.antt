use Rattle.wire_reader.proofs.PlaceLaws.{end_law}
use Rattle.imap_replies.proofs.ReplyParts.{reply_part}
use Rattle.imap_replies.proofs.ReplyFeeds.{reply_feed}
use Rattle.imap_replies.proofs.places.replies_end_at_places.Goals as goal

pub returns : goal.returns
returns c = end_law reply_part reply_feed
