-- One portion of a stream after another, and the stream in any pieces.
use Rattle.std.specs.Prelude.{◌≡◌, ℕ, Bool, true, false, List, [], ◌∷◌, ◌++◌, flat_map, codes, None, Some}
use Rattle.imap_replies.specs.declared.word.NoticeKind.TheVariants as notices
use Rattle.imap_replies.specs.declared.response.ResponseText.TheVariants.{Plain}
use Rattle.imap_replies.specs.declared.reply.Reply.{Reply}
use Rattle.imap_replies.specs.declared.reply.Reply.TheVariants.{Notice}
use Rattle.imap_session.specs.Servers.{Server, LoggedOut, is_over, Quiet, news, reported}
use Rattle.imap_session.specs.Answering.{Answer, Gives, only, bad, bye}
use Rattle.imap_session.specs.Steps.{Step}
use Rattle.imap_session.specs.Portions.{LineFault, Syntax, LiteralTooLong, Item, Asks, Faulty, Ends, Late, Reads}
use Rattle.imap_session.specs.Unread.{Kept, Holds}

-- ---- what is done with what was read

abbrev pub fault_reply : LineFault → Reply
fault_reply (Syntax None) = Notice notices.Bad (Plain (codes "syntax"))
fault_reply (Syntax (Some tag)) = bad tag (codes "syntax")
fault_reply (LiteralTooLong tag) = bad tag (codes "literal")

abbrev pub ends : Server → Answer
ends s = record { replies = bye (codes "too long") ∷ []; after = record s { condition = LoggedOut } }

abbrev pub stays_silent : Server → Answer
stays_silent s = record { replies = []; after = s }

abbrev pub Does : Server → Item → List Reply → Server → Type 0
Does s (Asks command) = Step s command
Does s (Faulty fault) = Gives (only s (fault_reply fault))
Does s Ends = Gives (ends s)
Does s Late = Gives (stays_silent s)

-- after the end of the connection nothing is read, and before it something is
abbrev pub is_late : Item → Bool
is_late (Asks command) = false
is_late (Faulty fault) = false
is_late Ends = false
is_late Late = true

pub record Portion : Type 0 where
  pub item : Item
  pub text : List ℕ
  pub said : List Reply

-- A portion is read and answered: what others did meanwhile is reported after `+ go`.
pub record Takes (old : Server) (portion : Portion) (replies : List Reply) (new : Server) : Type 0 where
  pub before : Server
  pub own : List Reply
  pub reads : Reads portion.item portion.text portion.said
  pub quiet : Quiet old before
  pub at_end : is_late portion.item ≡ is_over before.condition
  pub does : Does (reported before) portion.item own new
  pub replies_are : replies ≡ portion.said ++ (news before ++ own)

abbrev pub Serve : Server → List Portion → List Reply → Server → Type 0
Serve old [] replies new = Quiet old new × (replies ≡ [])
Serve old (portion ∷ portions) replies new =
    (mine : List Reply) × (others : List Reply) × (mid : Server) × Takes old portion mine mid × Serve mid portions others new × (replies ≡ mine ++ others)

abbrev pub text_of : List Portion → List ℕ
text_of portions = flat_map (λ (p : Portion). p.text) portions

-- The portions at the front of the stream, up to this rest, get these replies.
pub record Runs (old : Server) (stream : List ℕ) (replies : List Reply) (rest : List ℕ) (new : Server) : Type 0 where
  pub portions : List Portion
  pub read : stream ≡ text_of portions ++ rest
  pub served : Serve old portions replies new

-- Some of the portions at the front of the stream were answered.
pub record ServesSome (old : Server) (stream : List ℕ) (new : Server) : Type 0 where
  pub replies : List Reply
  pub rest : List ℕ
  pub runs : Runs old stream replies rest new

-- ---- in any pieces

-- the server's end of a connection
pub record End : Type 0 where
  pub server : Server
  pub kept : Kept

-- these bytes are unread, and so often `+ go` was said of them
abbrev pub IsUnread : End → (unread : List ℕ) → (said : List Reply) → Type 0
IsUnread end = Holds (is_over end.server.condition) end.kept

-- These bytes come after those that are unread, and the server says these replies.
pub record FeedsFrom (old : End) (unread : List ℕ) (said : List Reply) (piece : List ℕ) (out : List Reply) (new : End) : Type 0 where
  pub replies : List Reply
  pub rest : List ℕ
  pub rest_said : List Reply
  pub runs : Runs old.server (unread ++ piece) replies rest new.server
  pub unread_then : IsUnread new rest rest_said
  pub are : said ++ out ≡ replies ++ rest_said

-- so it is, whatever is unread: of a line that is dropped not all bytes are kept
pub record Feeds (old : End) (piece : List ℕ) (out : List Reply) (new : End) : Type 0 where
  pub from : (unread : List ℕ) (said : List Reply) → IsUnread old unread said → FeedsFrom old unread said piece out new

-- Of these bytes some were read, and the connection is no more.
pub record FeedsSome (old : End) (piece : List ℕ) (new : Server) : Type 0 where
  pub from : (unread : List ℕ) (said : List Reply) → IsUnread old unread said → ServesSome old.server (unread ++ piece) new
