use Rattle.wire_reader.proofs.PlaceLaws.{waits_law}
use Rattle.imap_replies.proofs.ReplyParts.{reply_part}
use Rattle.imap_replies.proofs.ReplyFeeds.{reply_feed}
use Rattle.imap_replies.proofs.places.replies_wait_between_places.Goals as goal

pub returns : goal.returns
returns c = waits_law reply_part reply_feed
