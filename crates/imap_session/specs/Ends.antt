-- What a client has of a connection, and what became of a command that it sent.
use Rattle.std.specs.Prelude.{◌≡◌, ◌≤◌, ◌⊎◌, ℕ, Bool, true, false, List, [], ◌∷◌, ◌++◌, Some}
use Rattle.wire_reader.specs.declared.side.Speaker.TheVariants.{Commands}
use Rattle.wire_reader.specs.Lexical.{asks, outside}
use Rattle.imap_commands.specs.declared.command.Command.{Command}
use Rattle.imap_commands.specs.declared.command.Request.{Request}
use Rattle.imap_commands.specs.declared.command.Request.TheVariants as requests
use Rattle.imap_commands.specs.Commands.{Spelled}
use Rattle.imap_replies.specs.declared.reply.Reply.{Reply}
use Rattle.imap_session.specs.Servers.{Server, is_over, Quiet, news, reported}
use Rattle.imap_session.specs.Answering.{go}
use Rattle.imap_session.specs.Steps.{Step}
use Rattle.imap_session.specs.Portions.{goes_in}
use Rattle.imap_session.specs.Unread.{Whole}
use Rattle.imap_session.specs.Serving.{End, IsUnread}
use Rattle.imap_session.specs.Heard.{AreReplies, AreHeardAs}
use Rattle.imap_session.specs.Lines.{Line, Stays}

-- Both ends as the client has them: `coming` is what came and was not read yet, and what has not come.
pub record Ends : Type 0 where
  pub end : End
  pub coming : List ℕ

abbrev pub ends_of : Line → List ℕ → Ends
ends_of line heard = record { end = line.end; coming = heard ++ line.unseen }

-- the server has read these bytes of a command and no more, and has asked for the literals in them
pub record HasRead (front : List ℕ) (end : End) : Type 0 where
  pub kept : end.kept ≡ Whole front
  pub unread : IsUnread end front (goes_in front)

-- the server reads on, it has read so much of a command, and nothing is on the way
pub record IsAt (front : List ℕ) (ends : Ends) : Type 0 where
  pub reads_on : is_over ends.end.server.condition ≡ false
  pub has_read : HasRead front ends.end
  pub coming : ends.coming ≡ []

-- between two commands
abbrev pub IsIdle : Ends → Type 0
IsIdle ends = IsAt [] ends

-- These replies were heard, in some spelling.
pub record Hears (replies : List Reply) (old new : Ends) : Type 0 where
  pub stays : Stays old.end new.end
  pub bytes : List ℕ
  pub spelled : AreReplies replies bytes
  pub heard : old.coming ≡ bytes ++ new.coming

-- a text of a command that a server takes
pub record IsText (command : Command) (text : List ℕ) : Type 0 where
  pub spelled : Spelled command text
  pub fits : outside text ≤ 65536

-- The server did the command, with what others did before and after it.
pub record Did (command : Command) (goes : List Reply) (old : Server) (replies : List Reply) (new : Server) : Type 0 where
  pub before : Server
  pub own : List Reply
  pub after : Server
  pub quiet : Quiet old before
  pub step : Step (reported before) command own after
  pub later : Quiet after new
  pub replies_are : replies ≡ goes ++ (news before ++ own)

-- nothing of it was done, and nothing comes
pub record Nothing (old new : Ends) : Type 0 where
  pub quiet : Quiet old.end.server new.end.server
  pub coming : new.coming ≡ []

-- it was done, and its replies come
pub record AllDone (command : Command) (old new : Ends) : Type 0 where
  pub said : List Reply
  pub heard : List Reply
  pub did : Did command [] old.end.server said new.end.server
  pub heard_as : AreHeardAs old.end.server.keywords heard said
  pub has_read : HasRead [] new.end
  pub coming : AreReplies heard new.coming

abbrev pub SentOr : Command → Ends → Ends → Type 0
SentOr command old new = Nothing old new ⊎ AllDone command old new

-- a front at whose end a literal is asked for, and nothing before
pub record AsksAtEnd (front : List ℕ) (n : ℕ) : Type 0 where
  pub asks_is : asks Commands front ≡ Some n
  pub once : goes_in front ≡ go ∷ []

-- the octets of a literal are asked for
pub record Waits (front : List ℕ) (old new : Ends) : Type 0 where
  pub quiet : Quiet old.end.server new.end.server
  pub has_read : HasRead front new.end
  pub coming : AreReplies (go ∷ []) new.coming

abbrev pub AskedOr : (front : List ℕ) → Ends → Ends → Type 0
AskedOr front old new = Nothing old new ⊎ Waits front old new

-- the connection ends with this command
abbrev pub is_logout : Request → Bool
is_logout requests.Capability = false
is_logout requests.Noop = false
is_logout requests.Logout = true
is_logout (requests.Login user password) = false
is_logout (requests.Enable names) = false
is_logout (requests.List pattern) = false
is_logout (requests.Create mailbox) = false
is_logout (requests.Select mailbox) = false
is_logout (requests.Append mailbox flags message) = false
is_logout (requests.Fetch set what) = false
is_logout (requests.Store set mode flags) = false
is_logout (requests.Expunge set) = false

-- nothing changed, or the effect
abbrev pub MayHave : (Server → Server → Type 0) → Server → Server → Type 0
MayHave effect old new = Quiet old new ⊎ effect old new

-- the server did the command, with some replies
pub record DidCommand (command : Command) (old new : Server) : Type 0 where
  pub said : List Reply
  pub did : Did command [] old said new

-- the server did the command, and said replies as which these were heard
pub record DidSo (command : Command) (heard : List Reply) (old new : Server) : Type 0 where
  pub said : List Reply
  pub did : Did command [] old said new
  pub heard_as : AreHeardAs old.keywords heard said

-- a whole command, and its replies
pub record Done (command : Command) (heard : List Reply) (old new : Ends) : Type 0 where
  pub did : DidSo command heard old.end.server new.end.server
  pub idle : is_logout command.request ≡ false → IsIdle new

-- the reply asks for the literal, and nothing else is on the way
pub record IsGo (reply : Reply) (front : List ℕ) (new : Ends) : Type 0 where
  pub reply_is : reply ≡ go
  pub at : IsAt front new
