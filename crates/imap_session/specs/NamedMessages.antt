-- Which messages a set names, and what a command does to them (RFC 9051, sections 6.4.6 and 6.4.9). What becomes of one
-- message is said in mailcore, in the words that both sides share.
use Rattle.std.specs.Prelude.{ℕ, Bool, ◌&&◌, List, [], ◌∷◌, map, filter, Option, None, Some}
use Rattle.mailcore.specs.declared.mailbox.Message.{Message}
use Rattle.mailcore.specs.FlagSet.{has, DELETED}
use Rattle.mailcore.specs.Stores.{Store}
use Rattle.mailcore.specs.Operations.{flags_added, flags_removed, expunged}
use Rattle.wire_tokens.specs.declared.uid_set.SetItem.{SetItem}
use Rattle.wire_tokens.specs.Sets.{names}
use Rattle.imap_commands.specs.declared.command.StoreMode.{StoreMode}
use Rattle.imap_commands.specs.declared.command.StoreMode.TheVariants as modes

-- the greatest UID that is there: UIDs rise
abbrev pub greatest : List Message → Option ℕ
greatest [] = None
greatest (m ∷ []) = Some m.uid
greatest (m ∷ n ∷ ms) = greatest (n ∷ ms)

-- the set names this UID in the mailbox
abbrev pub named_in : Store → List SetItem → (uid : ℕ) → Bool
named_in s set uid = names (greatest s.messages) set uid

-- the UIDs of those messages that a set names
abbrev pub uids_named : List SetItem → Store → List ℕ
uids_named set s = filter (named_in s set) (map (λ m. m.uid) s.messages)

-- ---- UID STORE

abbrev pub flags_changed : StoreMode → (uid flags : ℕ) → Store → Store
flags_changed modes.Add uid flags = flags_added uid flags
flags_changed modes.Remove uid flags = flags_removed uid flags

-- of one message after another
abbrev pub each_changed : StoreMode → (flags : ℕ) → (uids : List ℕ) → Store → Store
each_changed mode flags [] s = s
each_changed mode flags (uid ∷ uids) s = each_changed mode flags uids (flags_changed mode uid flags s)

abbrev pub stored : StoreMode → (flags : ℕ) → List SetItem → Store → Store
stored mode flags set s = each_changed mode flags (uids_named set s) s

-- ---- UID EXPUNGE

-- the set names it, and it is marked as deleted
abbrev pub goes : (named : ℕ → Bool) → Message → Bool
goes named m = named m.uid && has m.flags DELETED

abbrev pub uids_going : List SetItem → Store → List ℕ
uids_going set s = map (λ m. m.uid) (filter (goes (named_in s set)) s.messages)

abbrev pub swept : List SetItem → Store → Store
swept set s = expunged (uids_going set s) s
