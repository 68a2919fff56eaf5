-- A connection that is served, by what is read of a reader and written to a writer where these bytes are known.
use Rattle.std.specs.Prelude.{◌≡◌, ◌⊎◌, ℕ, true, false, List, [], Option, Some}
use Rattle.std.specs.Io.KnownBytes.{Consumes, Appends, IsAtEnd}
use Rattle.imap_session.specs.Servers.{Server, NotAuthenticated, is_over}
use Rattle.imap_session.specs.Unread.{Kept, Whole}
use Rattle.imap_session.specs.Serving.{FeedsSome}
use Rattle.imap_session.specs.Lines.{greeting}
use Rattle.imap_server.specs.Taking.{Host, Fed}
use Rattle.imap_session.specs.Heard.{AreReplies}
use Rattle.serve.specs.declared.stream.ServeTurn.{ServeTurn}
use Rattle.serve.specs.declared.stream.ServeTurn.TheVariants.{GoesOn, Ends}

-- a new connection to a server
abbrev pub connected : Server → Host
connected s = record { server = record s { condition = NotAuthenticated; has_news = false }; connection = Some (Whole []); is_lost = false }

-- ---- bytes of a connection

-- they were answered, and the replies written
pub record Answers (old : Host) (bytes : List ℕ) (out_old out_new : Option (List ℕ)) (new : Host) : Type 0 where
  pub replies : List ℕ
  pub fed : Fed old bytes replies new
  pub sent : Appends out_old out_new replies

-- some of them were answered
pub record AnswersSome (old : Host) (bytes : List ℕ) (new : Server) : Type 0 where
  pub before : Kept
  pub was : old.connection ≡ Some before
  pub some : FeedsSome (record { server = old.server; kept = before }) bytes new

-- ---- what is read, up to some place

pub record Converses (old : Host) (in_old in_new out_old out_new : Option (List ℕ)) (new : Host) : Type 0 where
  pub read : List ℕ
  pub taken : Consumes in_old in_new read
  pub answers : Answers old read out_old out_new new

-- of what was read, some was answered
pub record BreaksOff (old : Host) (in_old in_new : Option (List ℕ)) (new : Server) : Type 0 where
  pub read : List ℕ
  pub taken : Consumes in_old in_new read
  pub some : AnswersSome old read new

-- ---- a whole connection

-- the server reads no more, or the client sends no more
abbrev pub IsEnd : (in_new : Option (List ℕ)) → Server → Type 0
IsEnd in_new s = (is_over s.condition ≡ true) ⊎ IsAtEnd in_new

abbrev pub IsEndOn : ServeTurn → (in_new : Option (List ℕ)) → Server → Type 0
IsEndOn GoesOn in_new s = Unit {0}
IsEndOn Ends in_new s = IsEnd in_new s

-- the same where it is the server that reads no more
abbrev pub IsOverOn : ServeTurn → Server → Type 0
IsOverOn GoesOn s = Unit {0}
IsOverOn Ends s = is_over s.condition ≡ true

-- The greeting was written, and then what was read up to the end was answered.
pub record Serves (old : Server) (in_old in_new out_old out_new : Option (List ℕ)) (new : Server) : Type 0 where
  pub hello : List ℕ
  pub greets : AreReplies greeting hello
  pub out_greeted : Option (List ℕ)
  pub greeted : Appends out_old out_greeted hello
  pub kept : Kept
  pub converses : Converses (connected old) in_old in_new out_greeted out_new (record { server = new; connection = Some kept; is_lost = false })
  pub ended : IsEnd in_new new
