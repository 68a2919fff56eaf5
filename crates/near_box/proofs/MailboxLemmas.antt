-- A folder holds a mailbox if its store is one, its files stand apart, and its meta file is read.
use Rattle.std.proofs.Common.{◌≡◌, ℕ, ◌<◌, ◌⊎◌, inl, inr, true, ltb, lt-ltb, ltb-true, List, get_or, All, Option, Some, sym, ap, subst, arith}
use Rattle.std.specs.Prelude.{unwrap_or, Result, Ok, Err}
use Rattle.std.proofs.lemmas.Bool.{cases_order}
use Rattle.std.proofs.lemmas.List.Sorted.{IsStrictWeakOrder-by_number, IsPermutation-sym}
use Rattle.mailcore.specs.declared.keywords.Keyword.{Keyword}
use Rattle.mailcore.specs.declared.mailbox.Message.{Message}
use Rattle.mailcore.specs.Stores.{IsStore}
use Rattle.maildir.specs.declared.meta.Meta.{Meta}
use Rattle.maildir.specs.Folders.{Stored, AreApart, with_copy}
use Rattle.near_box.specs.declared.near_fault.NearFault.{NearFault}
use Rattle.near_box.specs.Mailboxes.{messages_in, by_uid, meta_in, first_meta, near_of, IsMailbox}
use Rattle.near_box.specs.NearEffects.{Does}
use Rattle.near_box.proofs.OpenLemmas.{apart_of_messages, below_of_messages, messages_apart, messages_are_below}
use Rattle.near_box.proofs.PutLemmas.{All-sorted, All-from_sorted}
use Rattle.maildir.proofs.PermutedLemmas.{pairs_permuted}
use Rattle.near_box.proofs.SortingLemmas.{sorted_permutes, sorted_rises_by}

ordered : (a b : Message) → (a.uid ≡ b.uid → ⊥) → (ltb a.uid b.uid ≡ true) ⊎ (ltb b.uid a.uid ≡ true)
ordered a b other = elim (cases_order a.uid b.uid) [
  | inl e ↦ absurd (other e)
  | inr (inl less) ↦ inl (lt-ltb a.uid b.uid less)
  | inr (inr more) ↦ inr (lt-ltb b.uid a.uid more)
]

-- ---- the store of a mailbox

pub mailbox_store : (fresh : ℕ) (keywords : List Keyword) (s : Stored) → IsMailbox fresh s → IsStore (near_of fresh keywords s).store
mailbox_store fresh keywords s is = record {
  rising = λ i j d less within. ltb-true (get_or messages i d).uid (get_or messages j d).uid
      (sorted_rises_by (λ a b. ltb a.uid b.uid) (IsStrictWeakOrder-by_number (λ m. m.uid)) (messages_in keywords s.files)
      (λ i j d less within. ordered (get_or (messages_in keywords s.files) i d) (get_or (messages_in keywords s.files) j d) (messages_apart keywords s.files is.once i j d less within)) i j d less within);
  below = All-sorted (λ a b. ltb a.uid b.uid) (λ m. m.uid < (near_of fresh keywords s).store.next) (messages_in keywords s.files)
      (subst (λ (n : ℕ). All (λ m. m.uid < n) (messages_in keywords s.files)) (sym next) (messages_are_below keywords s.files is.meta.meta.next is.meta.below));
}
  where
    messages : List Message
    messages = by_uid (messages_in keywords s.files)

    next : (near_of fresh keywords s).store.next ≡ is.meta.meta.next
    next = ap (λ (o : Option Meta). (unwrap_or o (first_meta fresh)).next) is.meta.is

-- ---- and back

turned : (a b : Message) → (a.uid ≡ b.uid → ⊥) → b.uid ≡ a.uid → ⊥
turned a b other same = other (sym same)

pub store_mailbox : (fresh : ℕ) (keywords : List Keyword) (s : Stored) (meta : Meta) → s.is_there ≡ true → AreApart s.files → meta_in fresh s.meta ≡ Some meta → IsStore (near_of fresh keywords s).store → IsMailbox fresh s
store_mailbox fresh keywords s meta is_there apart read store = record {
  is_there = is_there;
  apart = apart;
  once = apart_of_messages keywords s.files (pairs_permuted (λ a b. a.uid ≡ b.uid → ⊥) turned messages (messages_in keywords s.files)
      (IsPermutation-sym (messages_in keywords s.files) messages (sorted_permutes (λ a b. ltb a.uid b.uid) (messages_in keywords s.files)))
      (λ i j d less within same. let up = store.rising i j d less within in omega arith));
  meta = record {
    meta = meta;
    is = read;
    below = below_of_messages keywords s.files meta.next (All-from_sorted (λ a b. ltb a.uid b.uid) (λ m. m.uid < meta.next) (messages_in keywords s.files)
        (subst (λ (n : ℕ). All (λ m. m.uid < n) messages) next store.below));
  };
}
  where
    messages : List Message
    messages = by_uid (messages_in keywords s.files)

    next : (near_of fresh keywords s).store.next ≡ meta.next
    next = ap (λ (o : Option Meta). (unwrap_or o (first_meta fresh)).next) read

-- ---- what a call leaves

-- the copy in `tmp` is no part of it
pub mailbox_copy : (fresh : ℕ) (s : Stored) (bytes : List ℕ) → IsMailbox fresh s → IsMailbox fresh (with_copy bytes s)
mailbox_copy fresh s bytes is = record {
  is_there = is.is_there;
  apart = is.apart;
  once = is.once;
  meta = record { meta = is.meta.meta; is = is.meta.is; below = is.meta.below };
}

pub mailbox_same : (fresh : ℕ) (s s' : Stored) → s' ≡ s → IsMailbox fresh s → IsMailbox fresh s'
mailbox_same fresh s s' same is = subst (IsMailbox fresh) (sym same) is

-- with its effect, without it, or with a part of it
pub mailbox_after : {T : Type 0} (fresh : ℕ) (s s' : Stored) (effect : Stored → Stored) (part : Stored → Stored → Type 0) (r : Result T NearFault)
    → Does effect part s s' r → IsMailbox fresh s → IsMailbox fresh (effect s) → ((t : Stored) → part s t → IsMailbox fresh t) → IsMailbox fresh s'
mailbox_after fresh s s' effect part (Ok answer) done is after half = mailbox_same fresh (effect s) s' done after
mailbox_after fresh s s' effect part (Err fault) (inl same) is after half = mailbox_same fresh s s' same is
mailbox_after fresh s s' effect part (Err fault) (inr (inl done)) is after half = mailbox_same fresh (effect s) s' done after
mailbox_after fresh s s' effect part (Err fault) (inr (inr some)) is after half = half s' some
