-- The near box removes a list of messages, whatever their flags; a mailbox removes one, if it is marked as deleted.
use Rattle.std.proofs.Common.{◌≡◌, ◌⊎◌, inl, inr, ap, ◌∙◌, refl, sym, ℕ, zero, suc, Bool, true, false, List, [], ◌∷◌, take, Result, Ok, Err}
use Rattle.std.specs.Prelude.{All, not, ◌&&◌, ◌||◌, ◌==◌}
use Rattle.std.specs.List.{list_any}
use Rattle.std.proofs.lemmas.Bool.{eqb-true}
use Rattle.std.proofs.lemmas.List.Elements.{All-weaker}
use Rattle.device.specs.Calls.{Nothing, Went, Follows}
use Rattle.mailcore.specs.declared.mailbox.Message.{Message}
use Rattle.mailcore.specs.declared.side.Side.TheVariants as side
use Rattle.mailcore.specs.FlagSet.{DELETED, has}
use Rattle.mailcore.specs.Operations.{expunged, with_messages}
use Rattle.maildir.specs.declared.folder.Folder as folder
use Rattle.near_box.specs.declared.near_fault.NearFault.{NearFault}
use Rattle.mailcore.specs.Mailboxes.{Mailbox, on_store, ExpungesSome}
use Rattle.near_box.specs.NearContracts.{Changes}
use Rattle.near_box.proofs.KeptLemmas.{filter_all, filters_agree}
use Rattle.outside.specs.BoxArrivals.{Arrives}
use Rattle.outside.specs.MailboxOperations.{removed}
use Rattle.mail_sides.specs.declared.near_side.NearSide.{NearSide}
use Rattle.mail_sides.specs.NearSides.{seen_of}
use Rattle.mail_sides.proofs.NearCalls.{unvisited}

-- the message is marked as deleted, or is not, if it is there
abbrev pub IsMarkedAs : (uid : ℕ) → Bool → Mailbox → Type 0
IsMarkedAs uid is n = All (λ m. m.uid ≡ uid → has m.flags DELETED ≡ is) n.store.messages

-- ---- it is marked

same_test : (uid : ℕ) (m : Message) → (m.uid ≡ uid → has m.flags DELETED ≡ true) → not (list_any (λ u. m.uid == u) (uid ∷ [])) ≡ not (m.uid == uid && has m.flags DELETED)
same_test uid m marked = by_test (m.uid == uid) (has m.flags DELETED) (λ e. marked (eqb-true m.uid uid e))
  where
    by_test : (a b : Bool) → (a ≡ true → b ≡ true) → not (a || false) ≡ not (a && b)
    by_test true true h = refl
    by_test true false h = h refl
    by_test false b h = refl

near_removed : (uid : ℕ) (n : Mailbox) → IsMarkedAs uid true n → on_store (expunged (uid ∷ [])) n ≡ on_store (removed uid) n
near_removed uid n marked =
    ap (λ (ms : List Message). on_store (with_messages (λ _. ms)) n)
    (filters_agree (λ m. not (list_any (λ u. m.uid == u) (uid ∷ []))) (λ m. not (m.uid == uid && has m.flags DELETED)) n.store.messages
    (All-weaker (λ m. m.uid ≡ uid → has m.flags DELETED ≡ true) (λ m. not (list_any (λ u. m.uid == u) (uid ∷ [])) ≡ not (m.uid == uid && has m.flags DELETED)) (same_test uid) n.store.messages marked))

-- some of one message: it, or none
removed_or_not : (uid : ℕ) (n n' : Mailbox) → IsMarkedAs uid true n → ExpungesSome (uid ∷ []) n n' → (n' ≡ n) ⊎ (n' ≡ on_store (removed uid) n)
removed_or_not uid n n' marked h = by_count h.count h.now
  where
    by_count : (count : ℕ) → n' ≡ on_store (expunged (take count (uid ∷ []))) n → (n' ≡ n) ⊎ (n' ≡ on_store (removed uid) n)
    by_count zero now = inl (now ∙ ap (λ (ms : List Message). on_store (with_messages (λ _. ms)) n) (filter_all (λ (m : Message). true) n.store.messages (λ k d within. refl)))
    by_count (suc zero) now = inr (now ∙ near_removed uid n marked)
    by_count (suc (suc count)) now = inr (now ∙ near_removed uid n marked)

pub removes_one : {T : Type 0} (uid : ℕ) (n n' : Mailbox) (answer : Result T NearFault) → IsMarkedAs uid true n → Changes (on_store (expunged (uid ∷ []))) (ExpungesSome (uid ∷ [])) n n' answer
    → Changes (on_store (removed uid)) Nothing n n' answer
removes_one uid n n' (Ok x) marked h = h ∙ near_removed uid n marked
removes_one uid n n' (Err e) marked (inl same) = inl same
removes_one uid n n' (Err e) marked (inr (inl gone)) = inr (inl (gone ∙ near_removed uid n marked))
removes_one uid n n' (Err e) marked (inr (inr some)) = elim (removed_or_not uid n n' marked some) [ inl same ↦ inl same | inr gone ↦ inr (inl gone) ]

-- ---- it is not

stays_test : (uid : ℕ) (m : Message) → (m.uid ≡ uid → has m.flags DELETED ≡ false) → not (m.uid == uid && has m.flags DELETED) ≡ true
stays_test uid m unmarked = by_test (m.uid == uid) (has m.flags DELETED) (λ e. unmarked (eqb-true m.uid uid e))
  where
    by_test : (a b : Bool) → (a ≡ true → b ≡ false) → not (a && b) ≡ true
    by_test true b h = ap not (h refl)
    by_test false b h = refl

all_stay : (uid : ℕ) (n : Mailbox) → IsMarkedAs uid false n → n ≡ on_store (removed uid) n
all_stay uid n unmarked =
    ap (λ (ms : List Message). on_store (with_messages (λ _. ms)) n)
    (sym (filter_all (λ m. not (m.uid == uid && has m.flags DELETED)) n.store.messages
    (All-weaker (λ m. m.uid ≡ uid → has m.flags DELETED ≡ false) (λ m. not (m.uid == uid && has m.flags DELETED) ≡ true) (stays_test uid) n.store.messages unmarked)))

-- nothing is called then, and the mailbox is as the removal leaves it
pub removes_none : {F : Type 0} {folders : folder.Ghosts F} (s : NearSide F folders) (uid : ℕ) → (seen_of s).is_broken ≡ false → (folders.honest s.near.folder → IsMarkedAs uid false (seen_of s).stored)
    → Went (folders.honest s.near.folder) (Follows (Arrives side.Near folders.visitors.ours folders.visitors.alone) (λ b b'. b' ≡ on_store (removed uid) b)) (seen_of s) (seen_of s)
removes_none {F} {folders} s uid whole unmarked = record {
  was_whole = whole;
  is_whole = whole;
  stops = refl;
  effect = λ h. unvisited folders.visitors (λ b b'. b' ≡ on_store (removed uid) b) (all_stay uid (seen_of s).stored (unmarked h));
}
