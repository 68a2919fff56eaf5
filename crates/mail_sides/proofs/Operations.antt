-- What calls of the far box do is the operation of the mailbox.
use Rattle.std.proofs.Common.{◌≡◌, ℕ, Bool, true, false, ◌||◌, ◌&&◌, ◌==◌, not, List, [], ◌∷◌, filter, refl, ap, ◌∙◌}
use Rattle.std.specs.List.{list_any}
use Rattle.mailcore.specs.FlagSet.{has, DELETED}
use Rattle.mailcore.specs.Operations.{with_messages}
use Rattle.mailcore.specs.Stores.{IsStore, Store}
use Rattle.mailcore.specs.declared.mailbox.Message.{Message}
use Rattle.imap_commands.specs.declared.command.StoreMode.{StoreMode}
use Rattle.imap_session.specs.NamedMessages.{flags_changed, stored, swept}
use Rattle.imap_session.specs.Servers.{Server, with_selected}
use Rattle.imap_client.specs.Boxes.{one_uid}
use Rattle.imap_client.specs.Calls.{each_one}
use Rattle.imap_client.specs.Laws.{deleted_removed}
use Rattle.imap_client.proofs.Flagging.{selected_same, stored_is_flagged}
use Rattle.imap_client.proofs.Removing.{swept_is_deleted}
use Rattle.outside.specs.MailboxOperations.{removed}
use Rattle.mail_sides.specs.Chosen.{IsChosen}
use Rattle.mail_sides.proofs.Mailboxes.{selected_is}

pub stored_same : (name : List ℕ) (s : Server) (mode : StoreMode) (uid flags : ℕ) (c : IsChosen name s) → IsStore c.mailbox.store → with_selected (stored mode flags (one_uid uid)) s ≡ with_selected (flags_changed mode uid flags) s
stored_same name s mode uid flags c is = stored_is_flagged s c.mailbox mode uid flags (selected_is name s c) is.rising

or_false : (b : Bool) → (b || false) ≡ b
or_false true = refl
or_false false = refl

removed_one : (uid : ℕ) (ms : List Message) → filter (λ m. not (list_any (λ u. m.uid == u) (uid ∷ []) && has m.flags DELETED)) ms ≡ filter (λ m. not (m.uid == uid && has m.flags DELETED)) ms
removed_one uid [] = refl
removed_one uid (m ∷ ms) = rw (or_false (m.uid == uid), removed_one uid ms) refl

removed_same : (uid : ℕ) (s : Store) → deleted_removed (uid ∷ []) s ≡ removed uid s
removed_same uid s = ap (λ (ms : List Message). with_messages (λ _. ms) s) (removed_one uid s.messages)

pub swept_same : (name : List ℕ) (s : Server) (uid : ℕ) (c : IsChosen name s) → IsStore c.mailbox.store → with_selected (swept (each_one (uid ∷ []))) s ≡ with_selected (removed uid) s
swept_same name s uid c is =
    swept_is_deleted s c.mailbox (uid ∷ []) (selected_is name s c) is.rising
    ∙ selected_same (deleted_removed (uid ∷ [])) (removed uid) s c.mailbox (selected_is name s c) (removed_same uid c.mailbox.store)
