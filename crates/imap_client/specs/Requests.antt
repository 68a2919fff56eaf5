-- Requests that are sent in one line: no literal of theirs is asked for.
use Rattle.std.specs.Prelude.{◌≡◌, ◌≤◌, ◌+◌, ℕ, true, List, [], ◌∷◌, length}
use Rattle.std.specs.List.{list_all}
use Rattle.wire_tokens.specs.Room.{most_flags, most_set}
use Rattle.wire_strings.specs.Texts.{is_text}
use Rattle.imap_commands.specs.declared.command.Request.{Request}
use Rattle.imap_commands.specs.declared.command.Request.TheVariants as requests
use Rattle.imap_session.specs.SessionCommands.{REV2}

-- at most 1024 bytes, each of which may stand in a quoted string: a mailbox's name, a user, a password
pub record IsWord (word : List ℕ) : Type 0 where
  pub each : list_all is_text word ≡ true
  pub most : length word ≤ 1024

abbrev pub IsPlain : Request → Type 0
IsPlain requests.Capability = Unit {0}
IsPlain requests.Noop = Unit {0}
IsPlain requests.Logout = Unit {0}
IsPlain (requests.Login user password) = IsWord user × IsWord password
IsPlain (requests.Enable names) = names ≡ REV2 ∷ []
IsPlain (requests.List pattern) = length pattern ≤ 1024
IsPlain (requests.Create mailbox) = IsWord mailbox
IsPlain (requests.Select mailbox) = IsWord mailbox
IsPlain (requests.Append mailbox flags message) = ⊥
IsPlain (requests.Fetch set what) = most_set set ≤ 65000
IsPlain (requests.Store set mode flags) = most_set set + most_flags flags ≤ 65000
IsPlain (requests.Expunge set) = most_set set ≤ 65000
