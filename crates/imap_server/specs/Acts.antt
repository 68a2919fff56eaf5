-- What another session does to one message of a mailbox, by UID STORE and UID EXPUNGE of its UID alone (RFC 9051, sections 6.4.6 and 6.4.9).
use Rattle.std.specs.Prelude.{ℕ, ◌^◌, List, [], ◌∷◌}
use Rattle.mailcore.specs.FlagSet.{DELETED}
use Rattle.mailcore.specs.KeywordNames.{kept}
use Rattle.mailcore.specs.Stores.{Store}
use Rattle.wire_tokens.specs.declared.uid_set.SetEnd.TheVariants.{Number}
use Rattle.wire_tokens.specs.declared.uid_set.SetItem.{SetItem}
use Rattle.wire_tokens.specs.declared.uid_set.SetItem.TheVariants.{One}
use Rattle.imap_commands.specs.declared.command.StoreMode.TheVariants as modes
use Rattle.imap_session.specs.Mailboxes.{changed}
use Rattle.imap_session.specs.NamedMessages.{stored, swept}
use Rattle.imap_session.specs.Servers.{Server}

-- the set of this UID
abbrev pub one : (uid : ℕ) → List SetItem
one uid = One (Number uid) ∷ []

-- these flags are set, and then those are cleared
abbrev pub re_flagged : (uid set clear : ℕ) → Store → Store
re_flagged uid set clear s = stored modes.Remove clear (one uid) (stored modes.Add set (one uid) s)

-- it is marked as deleted, and expunged
abbrev pub taken_away : (uid : ℕ) → Store → Store
taken_away uid s = swept (one uid) (stored modes.Add (2 ^ DELETED) (one uid) s)

-- Flags are set and cleared that have a name.
abbrev pub flagged_by_others : (name : List ℕ) (uid set clear : ℕ) → Server → Server
flagged_by_others name uid set clear s = record s { mailboxes = changed (re_flagged uid (kept s.keywords set) (kept s.keywords clear)) name s.mailboxes }

abbrev pub removed_by_others : (name : List ℕ) (uid : ℕ) → Server → Server
removed_by_others name uid s = record s { mailboxes = changed (taken_away uid) name s.mailboxes }
