-- UID STORE changes flags alone.
use Rattle.std.proofs.Common.{◌≡◌, ℕ, Bool, true, false, cond, List, [], ◌∷◌, map, refl, ◌∙◌, ap, Option, Some, None}
use Rattle.mailcore.specs.declared.mailbox.Message.{Message}
use Rattle.mailcore.specs.KeywordNames.{named_set}
use Rattle.mailcore.specs.Stores.{Store}
use Rattle.mailcore.specs.Operations.{flagged, with_flags}
use Rattle.wire_tokens.specs.declared.uid_set.SetItem.{SetItem}
use Rattle.imap_commands.specs.declared.command.FetchItems.{FetchItems}
use Rattle.imap_commands.specs.declared.command.StoreMode.{StoreMode}
use Rattle.imap_commands.specs.declared.command.StoreMode.TheVariants as modes
use Rattle.imap_replies.specs.declared.reply.Reply.{Reply}
use Rattle.imap_session.specs.Mailboxes.{FarMailbox, same_name, changed}
use Rattle.imap_session.specs.NamedMessages.{flags_changed, each_changed, stored, uids_named}
use Rattle.imap_session.specs.Servers.{Condition, NotAuthenticated, Authenticated, Selected, LoggedOut, Server, selected, changed_in}
use Rattle.imap_session.specs.Answering.{Gives}
use Rattle.imap_session.specs.MessageCommands.{fetches_in, stores_in}
use Rattle.imap_session.specs.SessionLaws.{Bodies, bodies_of}
use Rattle.imap_session.proofs.Messages.{uid-with_flags, bytes-with_flags}

abbrev pair : Message → ℕ × List ℕ
pair x = (x.uid, x.bytes)

-- what the mailbox of this name and this store shows
abbrev shows : List ℕ → Store → Bodies
shows name s = bodies_of (record { name = name; store = s })

pairs-flagged : (change : ℕ → ℕ) (u : ℕ) (ms : List Message) → map pair (map (with_flags change u) ms) ≡ map pair ms
pairs-flagged change u [] = refl
pairs-flagged change u (m ∷ ms) =
    let uid = uid-with_flags change u m in
    let bytes = bytes-with_flags change u m in
    let first : pair (with_flags change u m) ≡ pair m = ap (λ (n : ℕ). (n, (with_flags change u m).bytes)) uid ∙ ap (λ (l : List ℕ). (m.uid, l)) bytes in
    ap (λ (p : ℕ × List ℕ). p ∷ map pair (map (with_flags change u) ms)) first ∙ ap (λ (l : List (ℕ × List ℕ)). pair m ∷ l) (pairs-flagged change u ms)

with_pairs : List ℕ → Store → List (ℕ × List ℕ) → Bodies
with_pairs name s pairs = record { name = name; validity = s.validity; next = s.next; bodies = pairs }

flagged_shows : (name : List ℕ) (change : ℕ → ℕ) (u : ℕ) (s : Store) → shows name (flagged change u s) ≡ shows name s
unfolding with_pairs
flagged_shows name change u s = ap (with_pairs name s) (pairs-flagged change u s.messages)

changed_shows : (name : List ℕ) (mode : StoreMode) (uid flags : ℕ) (s : Store) → shows name (flags_changed mode uid flags s) ≡ shows name s
changed_shows name modes.Add uid flags s = flagged_shows name _ uid s
changed_shows name modes.Remove uid flags s = flagged_shows name _ uid s

each_shows : (name : List ℕ) (mode : StoreMode) (flags : ℕ) (uids : List ℕ) (s : Store) → shows name (each_changed mode flags uids s) ≡ shows name s
each_shows name mode flags [] s = refl
each_shows name mode flags (uid ∷ uids) s = each_shows name mode flags uids (flags_changed mode uid flags s) ∙ changed_shows name mode uid flags s

change_shows : (change : Store → Store) (name : List ℕ) (ms : List FarMailbox) → ((m : FarMailbox) → bodies_of (record m { store = change m.store }) ≡ bodies_of m)
    → map bodies_of (changed change name ms) ≡ map bodies_of ms
change_shows change name [] same = refl
change_shows change name (m ∷ ms) same = by_test (same_name m.name name) (change_shows change name ms same)
  where
    by_test : (b : Bool) → map bodies_of (changed change name ms) ≡ map bodies_of ms
        → map bodies_of (cond b (record m { store = change m.store } ∷ ms) (m ∷ changed change name ms)) ≡ bodies_of m ∷ map bodies_of ms
    by_test true rest = ap (λ (b : Bodies). b ∷ map bodies_of ms) (same m)
    by_test false rest = ap (λ (l : List Bodies). bodies_of m ∷ l) rest

change_in_shows : (change : Store → Store) (c : Condition) (ms : List FarMailbox) → ((m : FarMailbox) → bodies_of (record m { store = change m.store }) ≡ bodies_of m)
    → map bodies_of (changed_in c change ms) ≡ map bodies_of ms
change_in_shows change NotAuthenticated ms same = refl
change_in_shows change Authenticated ms same = refl
change_in_shows change (Selected name) ms same = change_shows change name ms same
change_in_shows change LoggedOut ms same = refl

stores_shows : (s : Server) (tag : List ℕ) (at : Option FarMailbox) (set : List SetItem) (mode : StoreMode) (flags : List (List ℕ)) (rs : List Reply) (new : Server)
    → Gives (stores_in at s tag set mode flags) rs new → map bodies_of new.mailboxes ≡ map bodies_of s.mailboxes
stores_shows s tag None set mode flags rs new h = ap (λ (v : Server). map bodies_of v.mailboxes) h.1
stores_shows s tag (Some m) set mode flags rs new h =
    ap (λ (v : Server). map bodies_of v.mailboxes) h.1
    ∙ change_in_shows (stored mode (named_set s.keywords flags) set) s.condition s.mailboxes (λ n. each_shows n.name mode (named_set s.keywords flags) (uids_named set n.store) n.store)

pub store_keeps : (old new : Server) (tag : List ℕ) (set : List SetItem) (mode : StoreMode) (flags : List (List ℕ)) (replies : List Reply)
    → Gives (stores_in (selected old) old tag set mode flags) replies new → map bodies_of new.mailboxes ≡ map bodies_of old.mailboxes
store_keeps old new tag set mode flags replies h = stores_shows old tag (selected old) set mode flags replies new h

fetches_same : (s : Server) (tag : List ℕ) (at : Option FarMailbox) (set : List SetItem) (what : FetchItems) (rs : List Reply) (new : Server)
    → Gives (fetches_in at s tag set what) rs new → new ≡ s
fetches_same s tag None set what rs new h = h.1
fetches_same s tag (Some m) set what rs new h = h.1

pub fetch_same : (old new : Server) (tag : List ℕ) (set : List SetItem) (what : FetchItems) (replies : List Reply)
    → Gives (fetches_in (selected old) old tag set what) replies new → new ≡ old
fetch_same old new tag set what replies h = fetches_same old tag (selected old) set what replies new h
