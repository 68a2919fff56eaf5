-- Commands as they are written: with their words in upper case and synchronizing literals (`{n}`, without `+`).
use Rattle.std.specs.Prelude.{ℕ, List}
use Rattle.wire_reader.specs.Spelling.{◌⨾◌, Is, crlf}
use Rattle.wire_reader.specs.Filled.{FilledLiteral}
use Rattle.wire_tokens.specs.Atoms.{TagText}
use Rattle.wire_strings.specs.Quotes.{QuotedText}
use Rattle.wire_strings.specs.Strings.{OnEitherSide, WrittenString}
use Rattle.wire_tokens.specs.Names.{NamesText}
use Rattle.wire_tokens.specs.FlagLists.{FlagsText}
use Rattle.wire_tokens.specs.Sets.{SetText}
use Rattle.imap_commands.specs.declared.command.Request.{Request}
use Rattle.imap_commands.specs.declared.command.Request.TheVariants as requests
use Rattle.imap_commands.specs.declared.command.Command.{Command}
use Rattle.imap_commands.specs.Verbs.{word_of}
use Rattle.imap_commands.specs.Requests.{space, verb_of, items_word, mode_word}

-- quoted where it can be, else a synchronizing literal (`{n}`, without `+`)
abbrev pub WrittenText : List ℕ → List ℕ → Type 0
WrittenText bytes text = WrittenString bytes text

-- a literal without `+`
abbrev pub WrittenMessage : List ℕ → List ℕ → Type 0
WrittenMessage octets = OnEitherSide (λ side. FilledLiteral side octets)

-- what follows the word
abbrev pub WrittenRequest : Request → List ℕ → Type 0
WrittenRequest requests.Capability = Is crlf
WrittenRequest requests.Noop = Is crlf
WrittenRequest requests.Logout = Is crlf
WrittenRequest (requests.Login user password) = WrittenText user ⨾ Is space ⨾ WrittenText password ⨾ Is crlf
WrittenRequest (requests.Enable names) = NamesText names ⨾ Is crlf
WrittenRequest (requests.List pattern) = QuotedText pattern ⨾ Is crlf
WrittenRequest (requests.Create mailbox) = WrittenText mailbox ⨾ Is crlf
WrittenRequest (requests.Select mailbox) = WrittenText mailbox ⨾ Is crlf
WrittenRequest (requests.Append mailbox flags message) = WrittenText mailbox ⨾ Is space ⨾ FlagsText flags ⨾ Is space ⨾ WrittenMessage message ⨾ Is crlf
WrittenRequest (requests.Fetch set what) = SetText set ⨾ Is space ⨾ Is (items_word what) ⨾ Is crlf
WrittenRequest (requests.Store set mode flags) = SetText set ⨾ Is space ⨾ Is (mode_word mode) ⨾ FlagsText flags ⨾ Is crlf
WrittenRequest (requests.Expunge set) = SetText set ⨾ Is crlf

abbrev pub Written : Command → List ℕ → Type 0
Written command = TagText command.tag ⨾ Is space ⨾ Is (word_of (verb_of command.request)) ⨾ WrittenRequest command.request
