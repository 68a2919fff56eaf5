-- Requests and their spellings (RFC 9051, section 9: command-any, command-nonauth, command-auth, command-select).
use Rattle.std.specs.Prelude.{ℕ, List, [], ◌∷◌, codes}
use Rattle.wire_reader.specs.declared.side.Speaker.TheVariants.{Commands}
use Rattle.wire_reader.specs.Spelling.{◌⨾◌, Is, Word, crlf}
use Rattle.wire_reader.specs.Filled.{FilledLiteral}
use Rattle.wire_strings.specs.Quotes.{QuotedText}
use Rattle.wire_strings.specs.Strings.{ValueText}
use Rattle.wire_tokens.specs.Names.{NamesText}
use Rattle.wire_tokens.specs.FlagLists.{FlagsText}
use Rattle.wire_tokens.specs.Sets.{SetText}
use Rattle.imap_commands.specs.declared.verb.Verb.{Verb}
use Rattle.imap_commands.specs.declared.verb.Verb.TheVariants as verbs
use Rattle.imap_commands.specs.declared.command.FetchItems.{FetchItems}
use Rattle.imap_commands.specs.declared.command.FetchItems.TheVariants as items
use Rattle.imap_commands.specs.declared.command.StoreMode.{StoreMode}
use Rattle.imap_commands.specs.declared.command.StoreMode.TheVariants as modes
use Rattle.imap_commands.specs.declared.command.Request.{Request}
use Rattle.imap_commands.specs.declared.command.Request.TheVariants as requests

-- the word that a request begins with
abbrev pub verb_of : Request → Verb
verb_of requests.Capability = verbs.Capability
verb_of requests.Noop = verbs.Noop
verb_of requests.Logout = verbs.Logout
verb_of (requests.Login user password) = verbs.Login
verb_of (requests.Enable names) = verbs.Enable
verb_of (requests.List pattern) = verbs.List
verb_of (requests.Create mailbox) = verbs.Create
verb_of (requests.Select mailbox) = verbs.Select
verb_of (requests.Append mailbox flags message) = verbs.Append
verb_of (requests.Fetch set what) = verbs.Fetch
verb_of (requests.Store set mode flags) = verbs.Store
verb_of (requests.Expunge set) = verbs.Expunge

-- `fetch-att`, in the three lists of the profile
abbrev pub items_word : FetchItems → List ℕ
items_word items.Listing = codes "(UID FLAGS RFC822.SIZE)"
items_word items.Body = codes "(UID BODY.PEEK[])"
items_word items.Head = codes "(UID BODY.PEEK[]<0.22>)"

-- `store-att-flags`, with the space before the flags
abbrev pub mode_word : StoreMode → List ℕ
mode_word modes.Add = codes "+FLAGS.SILENT "
mode_word modes.Remove = codes "-FLAGS.SILENT "

-- `SP`
abbrev pub space : List ℕ
space = 32 ∷ []

-- `astring`: `userid`, `password`, `mailbox`
abbrev pub AString : List ℕ → List ℕ → Type 0
AString = ValueText Commands

-- what follows the word
abbrev pub RequestText : Request → List ℕ → Type 0
RequestText requests.Capability = Is crlf
RequestText requests.Noop = Is crlf
RequestText requests.Logout = Is crlf
RequestText (requests.Login user password) = AString user ⨾ Is space ⨾ AString password ⨾ Is crlf
RequestText (requests.Enable names) = NamesText names ⨾ Is crlf
RequestText (requests.List pattern) = QuotedText pattern ⨾ Is crlf
RequestText (requests.Create mailbox) = AString mailbox ⨾ Is crlf
RequestText (requests.Select mailbox) = AString mailbox ⨾ Is crlf
RequestText (requests.Append mailbox flags message) = AString mailbox ⨾ Is space ⨾ FlagsText flags ⨾ Is space ⨾ FilledLiteral Commands message ⨾ Is crlf
RequestText (requests.Fetch set what) = SetText set ⨾ Is space ⨾ Word (items_word what) ⨾ Is crlf
RequestText (requests.Store set mode flags) = SetText set ⨾ Is space ⨾ Word (mode_word mode) ⨾ FlagsText flags ⨾ Is crlf
RequestText (requests.Expunge set) = SetText set ⨾ Is crlf
