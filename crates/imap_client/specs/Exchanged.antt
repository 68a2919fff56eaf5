-- One command of a session, and its answer.
use Rattle.std.specs.Prelude.{ℕ, List, Result, Ok, Err}
use Rattle.imap_commands.specs.declared.command.Command.{Command}
use Rattle.imap_commands.specs.declared.command.Request.{Request}
use Rattle.imap_replies.specs.declared.reply.Reply.{Reply}
use Rattle.imap_replies.specs.declared.word.Status.{Status}
use Rattle.imap_replies.specs.declared.word.Status.TheVariants as statuses
use Rattle.imap_session.specs.Servers.{Server}
use Rattle.imap_session.specs.Ends.{MayHave}
use Rattle.imap_link.specs.declared.fault.FarFault.{FarFault}
use Rattle.imap_link.specs.declared.fault.FarFault.TheVariants.{Stopped, Refused, Protocol, TooLong, NoRev2, ReadOnly, NoMemory}
use Rattle.imap_link.specs.Exchanges.{Performs, Replied}
use Rattle.imap_link.specs.Outcomes.{Outcome, Never}
use Rattle.imap_client.specs.Tags.{tag_text}

-- the command with this request that is the n-th of its connection
abbrev pub command_at : (n : ℕ) → Request → Command
command_at n request = record { tag = tag_text n; request = request }

-- In what follows T holds of those of the replies that are about messages.

-- the server did the command, and said so with this status
pub record RepliedWith (c : Command) (status : Status) (T : List Reply → Type 0) (old new : Server) : Type 0 where
  pub bytes : List ℕ
  pub replied : Replied c status T bytes old new

-- the answer to the command was read; or the call was stopped, with the command done or not
abbrev pub AnsweredSo : Command → (T : List Reply → Type 0) → Result Status FarFault → (read : List ℕ) → (old new : Server) → Type 0
AnsweredSo c T result read old new = Outcome (λ status. Replied c status T read) Never (Performs c) result old new

-- The answer was read; or the server said NO, or BAD; or the call was stopped, with the command done or not.
abbrev pub Exchanged : Command → (T : List Reply → Type 0) → Result (Unit {0}) FarFault → (read : List ℕ) → (old new : Server) → Type 0
Exchanged c T (Ok _) read old new = Replied c statuses.Ok T read old new
Exchanged c T (Err Stopped) read old new = MayHave (Performs c) old new
Exchanged c T (Err Refused) read old new = RepliedWith c statuses.No T old new
Exchanged c T (Err Protocol) read old new = RepliedWith c statuses.Bad T old new
Exchanged c T (Err TooLong) read old new = ⊥
Exchanged c T (Err NoRev2) read old new = ⊥
Exchanged c T (Err ReadOnly) read old new = ⊥
Exchanged c T (Err NoMemory) read old new = MayHave (Performs c) old new
