-- How requests are read: in the shape of what they are.
use Rattle.std.specs.Prelude.{ℕ, List, [], ◌∷◌, Result}
use Rattle.wire_reader.specs.declared.side.Speaker.TheVariants.{Commands}
use Rattle.wire_reader.specs.declared.stop.Stop.{Stop}
use Rattle.wire_reader.specs.Filled.{filled_literal_at}
use Rattle.wire_reader.specs.Reading.{mapped, both, skip, keep, byte_at, crlf_at}
use Rattle.wire_reader.specs.Words.{keys_at}
use Rattle.wire_strings.specs.Quotes.{quoted_at}
use Rattle.wire_strings.specs.Strings.{value_at}
use Rattle.wire_tokens.specs.Names.{names_at}
use Rattle.wire_tokens.specs.FlagLists.{flags_at}
use Rattle.wire_tokens.specs.Sets.{set_at}
use Rattle.imap_commands.specs.declared.verb.Verb.{Verb}
use Rattle.imap_commands.specs.declared.verb.Verb.TheVariants as verbs
use Rattle.imap_commands.specs.declared.command.FetchItems.{FetchItems}
use Rattle.imap_commands.specs.declared.command.FetchItems.TheVariants as items
use Rattle.imap_commands.specs.declared.command.StoreMode.{StoreMode}
use Rattle.imap_commands.specs.declared.command.StoreMode.TheVariants as modes
use Rattle.imap_commands.specs.declared.command.Request.{Request}
use Rattle.imap_commands.specs.declared.command.Request.TheVariants as requests
use Rattle.imap_commands.specs.Requests.{items_word, mode_word}

-- one without arguments
abbrev pub bare_at : Request → List ℕ → Result (Request × List ℕ) Stop
bare_at request = mapped (λ _. request) crlf_at

abbrev pub astring_at : List ℕ → Result (List ℕ × List ℕ) Stop
astring_at = value_at Commands

abbrev pub items_at : List ℕ → Result (FetchItems × List ℕ) Stop
items_at = keys_at items_word items.Listing (items.Body ∷ items.Head ∷ [])

abbrev pub mode_at : List ℕ → Result (StoreMode × List ℕ) Stop
mode_at = keys_at mode_word modes.Add (modes.Remove ∷ [])

unfoldable pub login_at : List ℕ → Result (Request × List ℕ) Stop
login_at = mapped (λ v. requests.Login v.0 v.1) (both astring_at (skip (byte_at 32) (keep astring_at crlf_at)))

unfoldable pub enable_at : List ℕ → Result (Request × List ℕ) Stop
enable_at = mapped (λ names. requests.Enable names) (keep names_at crlf_at)

unfoldable pub list_at : List ℕ → Result (Request × List ℕ) Stop
list_at = mapped (λ pattern. requests.List pattern) (keep quoted_at crlf_at)

unfoldable pub create_at : List ℕ → Result (Request × List ℕ) Stop
create_at = mapped (λ mailbox. requests.Create mailbox) (keep astring_at crlf_at)

unfoldable pub select_at : List ℕ → Result (Request × List ℕ) Stop
select_at = mapped (λ mailbox. requests.Select mailbox) (keep astring_at crlf_at)

unfoldable pub append_at : List ℕ → Result (Request × List ℕ) Stop
append_at =
    mapped (λ v. requests.Append v.0 v.1.0 v.1.1)
    (both astring_at (skip (byte_at 32) (both flags_at (skip (byte_at 32) (keep (filled_literal_at Commands) crlf_at)))))

unfoldable pub fetch_at : List ℕ → Result (Request × List ℕ) Stop
fetch_at = mapped (λ v. requests.Fetch v.0 v.1) (both set_at (skip (byte_at 32) (keep items_at crlf_at)))

unfoldable pub store_at : List ℕ → Result (Request × List ℕ) Stop
store_at = mapped (λ v. requests.Store v.0 v.1.0 v.1.1) (both set_at (skip (byte_at 32) (both mode_at (keep flags_at crlf_at))))

unfoldable pub expunge_at : List ℕ → Result (Request × List ℕ) Stop
expunge_at = mapped (λ set. requests.Expunge set) (keep set_at crlf_at)

-- what follows this word
abbrev pub request_at : Verb → List ℕ → Result (Request × List ℕ) Stop
request_at verbs.Capability = bare_at requests.Capability
request_at verbs.Noop = bare_at requests.Noop
request_at verbs.Logout = bare_at requests.Logout
request_at verbs.Login = login_at
request_at verbs.Enable = enable_at
request_at verbs.List = list_at
request_at verbs.Create = create_at
request_at verbs.Select = select_at
request_at verbs.Append = append_at
request_at verbs.Fetch = fetch_at
request_at verbs.Store = store_at
request_at verbs.Expunge = expunge_at
