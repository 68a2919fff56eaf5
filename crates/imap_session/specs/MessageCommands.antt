-- UID FETCH, UID STORE, UID EXPUNGE (RFC 9051, sections 6.4.5, 6.4.6 and 6.4.9): taken where a mailbox is selected.
use Rattle.std.specs.Prelude.{ℕ, ◌+◌, Bool, List, [], ◌∷◌, ◌++◌, length, take, Option, None, Some, if◌then◌else◌}
use Rattle.mailcore.specs.declared.keywords.Keyword.{Keyword}
use Rattle.mailcore.specs.declared.mailbox.Message.{Message}
use Rattle.mailcore.specs.KeywordNames.{named_set, names_of}
use Rattle.wire_tokens.specs.declared.uid_set.SetItem.{SetItem}
use Rattle.wire_strings.specs.declared.string.WireString.TheVariants.{Literal}
use Rattle.imap_commands.specs.declared.command.FetchItems.{FetchItems}
use Rattle.imap_commands.specs.declared.command.FetchItems.TheVariants as wanted
use Rattle.imap_commands.specs.declared.command.StoreMode.{StoreMode}
use Rattle.imap_replies.specs.declared.fetch.FetchItem.{FetchItem}
use Rattle.imap_replies.specs.declared.fetch.FetchItem.TheVariants as items
use Rattle.imap_replies.specs.declared.reply.Reply.{Reply}
use Rattle.imap_replies.specs.declared.reply.Reply.TheVariants.{Fetch, Expunge}
use Rattle.imap_session.specs.Mailboxes.{FarMailbox}
use Rattle.imap_session.specs.NamedMessages.{named_in, goes, stored, swept}
use Rattle.imap_session.specs.Servers.{Server, selected, with_selected}
use Rattle.imap_session.specs.Answering.{Answer, done, out_of_place}

-- ---- UID FETCH

-- the items that are asked for, in their order; a head is the first 22 octets
abbrev pub shown : List Keyword → FetchItems → Message → List FetchItem
shown keywords wanted.Listing m = items.Uid m.uid ∷ items.Flags (names_of keywords m.flags) ∷ items.Size (length m.bytes) ∷ []
shown keywords wanted.Body m = items.Uid m.uid ∷ items.Body (Some (Literal m.bytes)) ∷ []
shown keywords wanted.Head m = items.Uid m.uid ∷ items.Head (Some (Literal (take 22 m.bytes))) ∷ []

-- Of messages that stand from this place on, a reply for each that is named.
abbrev pub fetched : List Keyword → (named : ℕ → Bool) → FetchItems → (place : ℕ) → List Message → List Reply
fetched keywords named what place [] = []
fetched keywords named what place (m ∷ ms) =
    if named m.uid then Fetch place (shown keywords what m) ∷ fetched keywords named what (place + 1) ms else fetched keywords named what (place + 1) ms

abbrev pub fetches_in : Option FarMailbox → Server → (tag : List ℕ) → List SetItem → FetchItems → Answer
fetches_in None s tag set what = out_of_place s tag
fetches_in (Some m) s tag set what =
    record { replies = fetched s.keywords (named_in m.store set) what 1 m.store.messages ++ done tag ∷ []; after = s }

abbrev pub fetches : Server → (tag : List ℕ) → List SetItem → FetchItems → Answer
fetches s = fetches_in (selected s) s

-- ---- UID STORE

-- names that no flag has are skipped
abbrev pub stores_in : Option FarMailbox → Server → (tag : List ℕ) → List SetItem → StoreMode → (flags : List (List ℕ)) → Answer
stores_in None s tag set mode flags = out_of_place s tag
stores_in (Some m) s tag set mode flags = record { replies = done tag ∷ []; after = with_selected (stored mode (named_set s.keywords flags) set) s }

abbrev pub stores : Server → (tag : List ℕ) → List SetItem → StoreMode → (flags : List (List ℕ)) → Answer
stores s = stores_in (selected s) s

-- ---- UID EXPUNGE

-- For each message that goes, its place at that moment: those before it are gone by then.
abbrev pub removed : (named : ℕ → Bool) → (place : ℕ) → List Message → List Reply
removed named place [] = []
removed named place (m ∷ ms) = if goes named m then Expunge place ∷ removed named place ms else removed named (place + 1) ms

abbrev pub expunges_in : Option FarMailbox → Server → (tag : List ℕ) → List SetItem → Answer
expunges_in None s tag set = out_of_place s tag
expunges_in (Some m) s tag set = record {
  replies = removed (named_in m.store set) 1 m.store.messages ++ done tag ∷ [];
  after = with_selected (swept set) s;
}

abbrev pub expunges : Server → (tag : List ℕ) → List SetItem → Answer
expunges s = expunges_in (selected s) s
