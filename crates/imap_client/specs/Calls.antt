-- What calls send.
use Rattle.std.specs.Prelude.{◌<◌, ◌≤◌, ℕ, List, [], ◌∷◌, map, length, max}
use Rattle.mailcore.specs.KeywordNames.{IsMap, names_of}
use Rattle.wire_tokens.specs.declared.uid_set.SetEnd.TheVariants.{Number, Greatest}
use Rattle.wire_tokens.specs.declared.uid_set.SetItem.{SetItem}
use Rattle.wire_tokens.specs.declared.uid_set.SetItem.TheVariants.{One, Range}
use Rattle.imap_commands.specs.declared.command.FetchItems.TheVariants as wanted
use Rattle.imap_commands.specs.declared.command.Request.{Request}
use Rattle.imap_commands.specs.declared.command.Request.TheVariants as requests
use Rattle.imap_session.specs.SessionCommands.{REV2}
use Rattle.imap_client.specs.declared.call.Call.{Call}
use Rattle.imap_client.specs.declared.call.Call.TheVariants as calls
use Rattle.imap_client.specs.Requests.{IsWord}

-- `from:*`, where UIDs begin at 1
abbrev pub from_on : ℕ → List SetItem
from_on from = Range (Number (max from 1)) Greatest ∷ []

-- the UIDs with `,` between
abbrev pub each_one : List ℕ → List SetItem
each_one uids = map (λ uid. One (Number uid)) uids

abbrev pub request_of : Call → Request
request_of calls.Capability = requests.Capability
request_of (calls.Login user password) = requests.Login user.now password.now
request_of calls.Enable = requests.Enable (REV2 ∷ [])
request_of calls.Names = requests.List (42 ∷ [])
request_of (calls.Create name) = requests.Create name.now
request_of (calls.Select name) = requests.Select name.now
request_of calls.Listing = requests.Fetch (from_on 1) wanted.Listing
request_of (calls.Body uid) = requests.Fetch (One (Number uid) ∷ []) wanted.Body
request_of (calls.Heads from) = requests.Fetch (from_on from) wanted.Head
request_of (calls.Store uid mode flags keywords) = requests.Store (One (Number uid) ∷ []) mode (names_of keywords.now flags)
request_of (calls.Expunge uids) = requests.Expunge (each_one uids.now)

-- what the caller owes: words that can be quoted, of at most 1024 bytes; a map; 1 to 5000 UIDs
abbrev pub CanAsk : Call → Type 0
CanAsk calls.Capability = Unit {0}
CanAsk (calls.Login user password) = IsWord user.now × IsWord password.now
CanAsk calls.Enable = Unit {0}
CanAsk calls.Names = Unit {0}
CanAsk (calls.Create name) = IsWord name.now
CanAsk (calls.Select name) = IsWord name.now
CanAsk calls.Listing = Unit {0}
CanAsk (calls.Body uid) = Unit {0}
CanAsk (calls.Heads from) = Unit {0}
CanAsk (calls.Store uid mode flags keywords) = IsMap keywords.now
CanAsk (calls.Expunge uids) = (0 < length uids.now) × (length uids.now ≤ 5000)
