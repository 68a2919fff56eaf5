-- Where the sender of a command waits, as far as messages go.
use Rattle.std.specs.Prelude.{◌≡◌, ℕ, List, ◌++◌, length, Some}
use Rattle.wire_reader.specs.declared.side.Speaker.TheVariants.{Commands}
use Rattle.wire_reader.specs.Lexical.{asks}
use Rattle.wire_reader.specs.Spelling.{crlf}
use Rattle.imap_commands.specs.declared.command.Request.TheVariants as requests
use Rattle.imap_commands.specs.Writing.{Written}

-- the message and the line end stand last, and after what stands before them the sender waits for the message
pub record WaitsBefore (message text : List ℕ) : Type 0 where
  pub front : List ℕ
  pub parts : text ≡ front ++ (message ++ crlf)
  pub waits : asks Commands front ≡ Some (length message)

-- so it is with each APPEND as it is written
abbrev pub AppendsWait : Type 0
AppendsWait =
    (tag mailbox message text : List ℕ) (flags : List (List ℕ))
    → Written (record { tag = tag; request = requests.Append mailbox flags message }) text
    → WaitsBefore message text
