-- A command that is sent, and the replies to it.
use Rattle.std.specs.Prelude.{◌≡◌, ℕ, false, List, [], ◌++◌, filter, Result, Ok, Err}
use Rattle.imap_commands.specs.declared.command.Command.{Command}
use Rattle.imap_replies.specs.declared.word.Status.{Status}
use Rattle.imap_replies.specs.declared.reply.Reply.{Reply}
use Rattle.imap_session.specs.Servers.{Server, NotAuthenticated, Quiet}
use Rattle.imap_session.specs.Steps.{Step}
use Rattle.imap_session.specs.Portions.{goes_in}
use Rattle.imap_session.specs.Heard.{AreReplies, AreHeardAs}
use Rattle.imap_session.specs.Lines.{Line, reported_server}
use Rattle.imap_session.specs.Ends.{ends_of, IsAt, IsIdle, IsText, AsksAtEnd, MayHave, is_logout}
use Rattle.imap_link.specs.declared.fault.FarFault.{FarFault}
use Rattle.imap_link.specs.declared.fault.FarFault.TheVariants.{Stopped, Refused, Protocol, TooLong, NoRev2, ReadOnly, NoMemory}
use Rattle.imap_link.specs.declared.wire.LastReply.{LastReply}
use Rattle.imap_link.specs.declared.wire.LastReply.TheVariants as states
use Rattle.imap_link.specs.declared.uses.Uses.{Uses}
use Rattle.imap_link.specs.UsedReplies.{is_used, uses_of}
use Rattle.imap_link.specs.Buffers.{IsAnswerText}
use Rattle.imap_link.specs.Sinks.{reporting}
use Rattle.imap_link.specs.Outcomes.{Outcome, Never}

-- Each server here is one that has reported its news, if it had any: calls skip that.

-- the server did the command, with some replies
pub record Performs (c : Command) (old new : Server) : Type 0 where
  pub said : List Reply
  pub step : Step old c said new

-- the server did the command, and said replies as which these were heard
pub record PerformsSo (c : Command) (heard : List Reply) (old new : Server) : Type 0 where
  pub said : List Reply
  pub step : Step old c said new
  pub heard_as : AreHeardAs old.keywords heard said

-- The server did the command. These bytes are those of its replies that the call keeps, of which the last has this status, and
-- T holds of those that are about messages.
pub record Replied (c : Command) (status : Status) (T : List Reply → Type 0) (bytes : List ℕ) (old new : Server) : Type 0 where
  pub text : IsAnswerText c.tag status bytes
  pub replies : List Reply
  pub spelled : AreReplies (filter (is_used (uses_of c.request)) replies) bytes
  pub reported : T (reporting replies)
  pub did : PerformsSo c replies old new

-- the bytes are what is missing of the command, after what the server has read; its call reads these replies
pub record Completes (c : Command) (uses : Uses) (tag from rest : List ℕ) : Type 0 where
  pub text : IsText c (from ++ rest)
  pub asks_no_more : goes_in (from ++ rest) ≡ goes_in from
  pub tag_is : c.tag ≡ tag
  pub uses_is : uses_of c.request ≡ uses

-- The outcome of a command whose rest is sent, where `coming` came and was not read before it: `read` is what was read of the
-- replies to it.
abbrev pub Exchanges : (uses : Uses) → (tag rest : List ℕ) → (T : List Reply → Type 0) → Result Status FarFault → (old : Line) (coming : List ℕ) (new : Line) (read : List ℕ) → Type 0
Exchanges uses tag rest T result old coming new read =
    (c : Command) (from : List ℕ) → Completes c uses tag from rest → IsAt from (ends_of old coming)
    → Outcome (λ status. Replied c status T read) Never (Performs c) result (reported_server old) (reported_server new)

-- if it has an answer, nothing is on the way after that
abbrev pub StaysIdle : (uses : Uses) → (tag rest : List ℕ) → (old : Line) (old_coming : List ℕ) (new : Line) (new_coming : List ℕ) → Type 0
StaysIdle uses tag rest old old_coming new new_coming =
    (c : Command) (from : List ℕ) → Completes c uses tag from rest → is_logout c.request ≡ false → IsAt from (ends_of old old_coming) → IsIdle (ends_of new new_coming)

-- ---- a literal

-- the server waits for the literal, and nothing is on the way after its `+`
pub record Waits (front : List ℕ) (old new : Line) (coming : List ℕ) : Type 0 where
  pub quiet : Quiet (reported_server old) (reported_server new)
  pub at : IsAt front (ends_of new coming)

abbrev pub AsksOr : (c : Command) (front : List ℕ) → Result LastReply FarFault → (old new : Line) (coming : List ℕ) → Type 0
AsksOr c front (Ok states.Go) old new coming = Waits front old new coming
AsksOr c front (Ok (states.Answer status)) old new coming = ⊥
AsksOr c front (Err Stopped) old new coming = MayHave (Performs c) (reported_server old) (reported_server new)
AsksOr c front (Err Refused) old new coming = ⊥
AsksOr c front (Err Protocol) old new coming = ⊥
AsksOr c front (Err TooLong) old new coming = ⊥
AsksOr c front (Err NoRev2) old new coming = ⊥
AsksOr c front (Err ReadOnly) old new coming = ⊥
AsksOr c front (Err NoMemory) old new coming = MayHave (Performs c) (reported_server old) (reported_server new)

-- the front of a command is sent, up to where its literal is asked for
abbrev pub AsksFor : (front : List ℕ) → Result LastReply FarFault → (old : Line) (old_coming : List ℕ) (new : Line) (new_coming : List ℕ) → Type 0
AsksFor front result old old_coming new new_coming =
    (c : Command) (rest : List ℕ) (n : ℕ) → IsText c (front ++ rest) → (rest ≡ [] → ⊥) → AsksAtEnd front n → IsIdle (ends_of old old_coming)
    → AsksOr c front result old new new_coming

-- ---- a new connection

-- the server is as it was, before login
abbrev pub Restarts : Server → Server → Type 0
Restarts old new = Quiet (record old { condition = NotAuthenticated }) new
