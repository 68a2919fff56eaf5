-- Replies as they are written.
use Rattle.std.specs.Prelude.{◌≡◌, ℕ, List, [], ◌∷◌}
use Rattle.wire_reader.specs.Spelling.{◌⨾◌, Is}
use Rattle.wire_tokens.specs.Writing.{Appended}
use Rattle.imap_replies.specs.declared.reply.Reply.{Reply}
use Rattle.imap_replies.specs.Replies.{WrittenReply}
use Rattle.imap_session.specs.Servers.{Server}
use Rattle.imap_session.specs.Answering.{Answer}

-- one reply after another
abbrev pub AreWritten : List Reply → List ℕ → Type 0
AreWritten [] = Is []
AreWritten (reply ∷ replies) = WrittenReply reply ⨾ AreWritten replies

-- they were appended
pub record Wrote (replies : List Reply) (old new : List ℕ) : Type 0 where
  pub appended : Appended (AreWritten replies) old new

-- the replies of an answer were appended, and this is the server after it
pub record Answered (answer : Answer) (old new : List ℕ) (after : Server) : Type 0 where
  pub wrote : Wrote answer.replies old new
  pub after_is : after ≡ answer.after

-- some replies were appended, and this is the server after them
pub record AnsweredBy (gives : List Reply → Server → Type 0) (old new : List ℕ) (after : Server) : Type 0 where
  pub replies : List Reply
  pub wrote : Wrote replies old new
  pub gives_them : gives replies after
