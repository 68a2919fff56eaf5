-- Bytes that are replies.
use Rattle.std.specs.Prelude.{◌≡◌, ℕ, List, ◌∷◌, ◌++◌, drop}
use Rattle.imap_replies.specs.declared.reply.Reply.{Reply}
use Rattle.imap_session.specs.Heard.{AreReplies}

pub record Speaks (bytes : List ℕ) : Type 0 where
  pub replies : List Reply
  pub spelled : AreReplies replies bytes

-- of these replies the first were read, and the others are left, in these bytes
pub record IsLeft (read : List Reply) (rest : List ℕ) (rs : List Reply) : Type 0 where
  pub left : List Reply
  pub spelled : AreReplies left rest
  pub all : rs ≡ read ++ left

-- the first of these replies, and how many bytes it has
pub record IsFirst (reply : Reply) (len : ℕ) (bytes : List ℕ) (rs : List Reply) : Type 0 where
  pub others : List Reply
  pub spelled : AreReplies others (drop len bytes)
  pub all : rs ≡ reply ∷ others
