-- What becomes of the bytes that come.
use Rattle.std.specs.Prelude.{◌≡◌, ◌<◌, ◌≤◌, ℕ, Bool, true, false, List, [], ◌∷◌, ◌++◌, length, take, drop, Option, None, Some, if◌then◌else◌}
use Rattle.std.specs.List.{list_all}
use Rattle.wire_reader.specs.Scanning.{NoPlace}
use Rattle.wire_reader.specs.Places.{Opens}
use Rattle.imap_commands.specs.declared.command.Command.{Command}
use Rattle.imap_commands.specs.Commands.{Spelled}
use Rattle.imap_replies.specs.declared.reply.Reply.{Reply}
use Rattle.imap_session.specs.Servers.{Server, is_over, news, reported}
use Rattle.imap_session.specs.Answering.{Answer, only}
use Rattle.imap_session.specs.Portions.{LineFault, FaultIs, Item, Asks, goes_in}
use Rattle.imap_session.specs.Unread.{Kept}
use Rattle.imap_session.specs.Heard.{AreReplies}
use Rattle.imap_session.specs.Serving.{Does, fault_reply, ends, Runs, End, IsUnread, Feeds, FeedsSome}
use Rattle.imap_session.specs.Short.{is_short}
use Rattle.imap_server.specs.declared.unread.Unread.{Unread}
use Rattle.imap_server.specs.Dropping.{loses_octets}
use Rattle.imap_server.specs.Unreads.{IsSound, end_of}
use Rattle.imap_server.specs.Writing.{Wrote}

-- the news was reported, and then what was read was done
pub record Reports (old : Server) (item : Item) (replies : List Reply) (new : Server) : Type 0 where
  pub own : List Reply
  pub does : Does (reported old) item own new
  pub replies_are : replies ≡ news old ++ own

-- so it was with a command, with short replies
abbrev pub ReportsShort : Server → Command → List Reply → Server → Type 0
ReportsShort old command replies new = Reports old (Asks command) replies new × (list_all is_short replies ≡ true)

-- an answer of the server once it has reported its news, after that news
abbrev pub reporting : (Server → Answer) → Server → Answer
reporting answer s = record { replies = news s ++ (answer (reported s)).replies; after = (answer (reported s)).after }

-- they were read, and what they complete was answered
pub record Took (old : End) (bytes : List ℕ) (before out : List ℕ) (server : Server) (unread : Unread) : Type 0 where
  pub said : List Reply
  pub feeds : Feeds old bytes said (end_of server unread)
  pub wrote : Wrote said before out
  pub short : list_all is_short said ≡ true
  pub sound : IsSound server unread

-- so it was with some of them, at least one
pub record TookSome (old : End) (bytes : List ℕ) (before out : List ℕ) (server : Server) (unread : Unread) (count : ℕ) : Type 0 where
  pub some : 0 < count
  pub within : count ≤ length bytes
  pub took : Took old (take count bytes) before out server unread

-- ---- a line up to a place

-- up to its last byte the line was waited for
pub record ToPlace (text : List ℕ) : Type 0 where
  pub front : List ℕ
  pub since : List ℕ
  pub byte : ℕ
  pub parts : text ≡ (front ++ since) ++ byte ∷ []
  pub opens : Opens Spelled front
  pub no_place : NoPlace front since

-- the text was read, of which so many `+ go` had been said before
pub record ReadLine (old : Server) (text : List ℕ) (reported : List Reply) (before out : List ℕ) (new : Server) (unread : Unread) : Type 0 where
  pub said : List Reply
  pub wrote : Wrote said before out
  pub short : list_all is_short said ≡ true
  pub sound : IsSound new unread
  pub replies : List Reply
  pub rest : List ℕ
  pub rest_said : List Reply
  pub runs : Runs old text replies rest new
  pub unread_then : IsUnread (end_of new unread) rest rest_said
  pub are : reported ++ said ≡ replies ++ rest_said

abbrev pub AnswersPlace : Server → (text before out : List ℕ) → Server → Unread → Type 0
AnswersPlace old text before out new unread = (is_over old.condition ≡ false) → (line : ToPlace text) → ReadLine old text (goes_in line.front) before out new unread

-- the answer to a line with a fault that ends so
abbrev pub dropped_answer : LineFault → (last : List ℕ) → Server → Answer
dropped_answer fault last s = if loses_octets fault last then ends s else only s (fault_reply fault)

-- so it is with a line whose fault stands before these bytes
abbrev pub DropsLine : Server → LineFault → (rest before out : List ℕ) → Server → Unread → Type 0
DropsLine old fault rest before out new unread =
    (is_over old.condition ≡ false) → (text : List ℕ) (at : ℕ) → FaultIs fault at text → drop at text ≡ rest → (line : ToPlace text) → ReadLine old text (goes_in line.front) before out new unread

-- ---- a server and its connection

-- the server, what it keeps of its connection where there is one, and whether memory ran out since the last one began
pub record Host : Type 0 where
  pub server : Server
  pub connection : Option Kept
  pub is_lost : Bool

-- a piece came over the connection, and this is the answer
pub record Fed (old : Host) (piece out : List ℕ) (new : Host) : Type 0 where
  pub before : Kept
  pub after : Kept
  pub was : old.connection ≡ Some before
  pub is : new.connection ≡ Some after
  pub said : List Reply
  pub feeds : Feeds (record { server = old.server; kept = before }) piece said (record { server = new.server; kept = after })
  pub spelled : AreReplies said out
  pub lost : new.is_lost ≡ old.is_lost

-- memory ran out: a part of the piece was read, and the connection is no more
pub record Lost (old : Host) (piece : List ℕ) (new : Host) : Type 0 where
  pub before : Kept
  pub was : old.connection ≡ Some before
  pub closed : new.connection ≡ None
  pub lost : new.is_lost ≡ true
  pub some : FeedsSome (record { server = old.server; kept = before }) piece new.server

-- What is kept of a connection is sound.
abbrev pub IsServing : Server → Option Unread → Type 0
IsServing server None = Unit {0}
IsServing server (Some unread) = IsSound server unread
