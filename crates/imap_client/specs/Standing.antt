-- A connection that stands: no call over it has failed.
use Rattle.std.specs.Prelude.{ℕ, List}
use Rattle.imap_replies.specs.declared.reply.Reply.{Reply}
use Rattle.imap_session.specs.Serving.{IsUnread}
use Rattle.imap_session.specs.Lines.{Line}

-- some bytes, or none, are unread at the server's end, which is such an end
pub record Stands (line : Line) : Type 0 where
  pub unread : List ℕ
  pub said : List Reply
  pub is : IsUnread line.end unread said
