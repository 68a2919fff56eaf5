-- A connection to an honest server.
use Rattle.std.specs.Prelude.{◌≡◌, ℕ, false, List, [], ◌∷◌, ◌++◌, codes}
use Rattle.imap_replies.specs.declared.word.NoticeKind.TheVariants as notices
use Rattle.imap_replies.specs.declared.response.ResponseText.TheVariants.{Plain}
use Rattle.imap_replies.specs.declared.reply.Reply.{Reply}
use Rattle.imap_replies.specs.declared.reply.Reply.TheVariants.{Notice}
use Rattle.imap_session.specs.Servers.{Server, NotAuthenticated, Quiet, reported}
use Rattle.imap_session.specs.Unread.{Whole}
use Rattle.imap_session.specs.Serving.{End, Feeds}
use Rattle.imap_session.specs.Heard.{AreReplies, AreHeardAs}

-- Both ends: the server's, and what it has replied that has not come yet. It reads at once what it will ever read of
-- the bytes that are sent.
pub record Line : Type 0 where
  pub end : End
  pub unseen : List ℕ

-- the server, but for news that it has not reported yet
abbrev pub reported_server : Line → Server
reported_server line = reported line.end.server

-- A beginning of the bytes was read, and answered; the others are lost.
pub record Sends (bytes : List ℕ) (old new : Line) : Type 0 where
  pub read : List ℕ
  pub lost : List ℕ
  pub said : List Reply
  pub heard : List Reply
  pub out : List ℕ
  pub split : bytes ≡ read ++ lost
  pub feeds : Feeds old.end read said new.end
  pub heard_as : AreHeardAs old.end.server.keywords heard said
  pub spelled : AreReplies heard out
  pub replied : new.unseen ≡ old.unseen ++ out

-- the same end, but for what others did
pub record Stays (old new : End) : Type 0 where
  pub quiet : Quiet old.server new.server
  pub kept : new.kept ≡ old.kept

-- These bytes came.
pub record Receives (bytes : List ℕ) (old new : Line) : Type 0 where
  pub stays : Stays old.end new.end
  pub came : old.unseen ≡ bytes ++ new.unseen

-- `* OK ready` (RFC 9051, section 7.1.1: the greeting)
abbrev pub greeting : List Reply
greeting = Notice notices.Ok (Plain (codes "ready")) ∷ []

-- the end of a new connection, before login; there is no news on it
pub record IsNewEnd (old : Server) (new : End) : Type 0 where
  pub quiet : Quiet (record old { condition = NotAuthenticated; has_news = false }) new.server
  pub kept : new.kept ≡ Whole []

-- a new connection; no byte of an earlier one is read at either end
pub record Starts (old new : Line) : Type 0 where
  pub end : IsNewEnd old.end.server new.end
  pub greeted : AreReplies greeting new.unseen
