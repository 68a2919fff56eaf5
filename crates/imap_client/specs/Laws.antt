-- What calls do to a mailbox, in the words that both sides share.
use Rattle.std.specs.Prelude.{◌≡◌, ℕ, true, not, ◌&&◌, ◌==◌, List, All, filter, Some}
use Rattle.std.specs.List.{list_any}
use Rattle.mailcore.specs.FlagSet.{has, DELETED}
use Rattle.mailcore.specs.Listed.{AreRising}
use Rattle.mailcore.specs.Operations.{with_messages, expunged}
use Rattle.mailcore.specs.Stores.{Store}
use Rattle.imap_commands.specs.declared.command.StoreMode.{StoreMode}
use Rattle.imap_session.specs.Mailboxes.{FarMailbox}
use Rattle.imap_session.specs.NamedMessages.{flags_changed, stored, swept}
use Rattle.imap_session.specs.Servers.{Server, selected, with_selected}
use Rattle.imap_client.specs.Boxes.{one_uid}
use Rattle.imap_client.specs.Calls.{each_one}

-- UID STORE of one message sets its flags or clears them, where UIDs rise (`flags_added`, `flags_removed` of mailcore).
abbrev pub StoredIsFlagged : Type 0
StoredIsFlagged =
    (s : Server) (m : FarMailbox) (mode : StoreMode) (uid flags : ℕ) → selected s ≡ Some m → AreRising m.store.messages
    → with_selected (stored mode flags (one_uid uid)) s ≡ with_selected (flags_changed mode uid flags) s

-- those of the messages with these UIDs that are marked as deleted are removed
abbrev pub deleted_removed : (uids : List ℕ) → Store → Store
deleted_removed uids = with_messages (filter (λ m. not (list_any (λ uid. m.uid == uid) uids && has m.flags DELETED)))

-- UID EXPUNGE of these UIDs removes just these, where UIDs rise.
abbrev pub SweptIsDeleted : Type 0
SweptIsDeleted =
    (s : Server) (m : FarMailbox) (uids : List ℕ) → selected s ≡ Some m → AreRising m.store.messages
    → with_selected (swept (each_one uids)) s ≡ with_selected (deleted_removed uids) s

-- Where all of the messages with these UIDs are marked as deleted, it removes them all (`expunged` of mailcore).
abbrev pub SweptIsExpunged : Type 0
SweptIsExpunged =
    (s : Server) (m : FarMailbox) (uids : List ℕ) → selected s ≡ Some m
    → All (λ x. list_any (λ uid. x.uid == uid) uids ≡ true → has x.flags DELETED ≡ true) m.store.messages
    → with_selected (swept (each_one uids)) s ≡ with_selected (expunged uids) s
