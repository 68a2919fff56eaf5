-- How many bytes of a command stand outside the octets of literals as it is written, at most.
use Rattle.std.specs.Prelude.{◌≤◌, ℕ, ◌+◌, ◌*◌, List, length}
use Rattle.wire_reader.specs.Lexical.{outside}
use Rattle.wire_tokens.specs.Room.{most_set, most_names, most_flags}
use Rattle.wire_strings.specs.Room.{most_literal, most_string}
use Rattle.imap_commands.specs.declared.command.Request.{Request}
use Rattle.imap_commands.specs.declared.command.Request.TheVariants as requests
use Rattle.imap_commands.specs.declared.command.Command.{Command}
use Rattle.imap_commands.specs.Verbs.{word_of}
use Rattle.imap_commands.specs.Requests.{verb_of, items_word, mode_word}
use Rattle.imap_commands.specs.Writing.{Written}

-- after the word, with the line end
abbrev pub most_after : Request → ℕ
most_after requests.Capability = 2
most_after requests.Noop = 2
most_after requests.Logout = 2
most_after (requests.Login user password) = most_string user + (1 + (most_string password + 2))
most_after (requests.Enable names) = most_names names + 2
most_after (requests.List pattern) = 2 * length pattern + 2 + 2
most_after (requests.Create mailbox) = most_string mailbox + 2
most_after (requests.Select mailbox) = most_string mailbox + 2
most_after (requests.Append mailbox flags message) = most_string mailbox + (1 + (most_flags flags + (1 + (most_literal + 2))))
most_after (requests.Fetch set what) = most_set set + (1 + (length (items_word what) + 2))
most_after (requests.Store set mode flags) = most_set set + (1 + (length (mode_word mode) + (most_flags flags + 2)))
most_after (requests.Expunge set) = most_set set + 2

abbrev pub most_outside : Command → ℕ
most_outside command = length command.tag + (1 + (length (word_of (verb_of command.request)) + most_after command.request))

-- a command as it is written
pub record Fitting (command : Command) (text : List ℕ) : Type 0 where
  pub written : Written command text
  pub fits : outside text ≤ most_outside command

abbrev pub CommandsFit : Type 0
CommandsFit = (command : Command) (text : List ℕ) → Written command text → outside text ≤ most_outside command
