-- Commands and their spellings (RFC 9051, section 9: command).
use Rattle.std.specs.Prelude.{ℕ, List, Result}
use Rattle.wire_reader.specs.declared.stop.Stop.{Stop}
use Rattle.wire_reader.specs.Spelling.{◌⨾◌, Is, Word}
use Rattle.wire_reader.specs.Reading.{seq, mapped, both, skip, byte_at}
use Rattle.wire_tokens.specs.Atoms.{TagText, tag_at}
use Rattle.imap_commands.specs.declared.command.Request.{Request}
use Rattle.imap_commands.specs.declared.command.Command.{Command}
use Rattle.imap_commands.specs.Verbs.{word_of, verb_at}
use Rattle.imap_commands.specs.Requests.{space, verb_of, RequestText}
use Rattle.imap_commands.specs.RequestReaders.{request_at}

-- a command as bytes
abbrev pub Spelled : Command → List ℕ → Type 0
Spelled command = TagText command.tag ⨾ Is space ⨾ Word (word_of (verb_of command.request)) ⨾ RequestText command.request

-- ---- how they are read

abbrev pub command_of : List ℕ × Request → Command
command_of p = record { tag = p.0; request = p.1 }

unfoldable pub command_at : List ℕ → Result (Command × List ℕ) Stop
command_at = mapped command_of (both tag_at (skip (byte_at 32) (seq verb_at request_at)))
