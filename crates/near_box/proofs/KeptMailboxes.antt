-- A folder that holds a mailbox holds one after each operation, also where it was stopped.
use Rattle.std.proofs.Common.{◌≡◌, ℕ, ◌+◌, ◌<◌, ◌≤◌, ◌^◌, ◌⊎◌, inl, inr, List, [], length, take, sym, ap, subst, ◌∙◌, arith}
use Rattle.std.specs.Prelude.{Result, not}
use Rattle.std.proofs.lemmas.Bool.{cases_lt}
use Rattle.std.proofs.lemmas.List.{length-take, take_all}
use Rattle.std.proofs.lemmas.List.Kept.{AllPairs-filter}
use Rattle.mailcore.specs.FlagSet.{minus, union}
use Rattle.mailcore.specs.KeywordNames.{kept}
use Rattle.mailcore.specs.Stores.{IsStore}
use Rattle.mailcore.proofs.KnownFlags.{kept-minus, kept-same, kept-union, kept-within}
use Rattle.mailcore.proofs.OperationLemmas.{is_store-added, is_store-set_aside, is_store-flagged, is_store-expunged, is_store-numbered}
use Rattle.mailcore.specs.declared.keywords.Keyword.{Keyword}
use Rattle.maildir.specs.declared.folder.FileName.{FileName}
use Rattle.maildir.specs.Folders.{Stored, AreApart, name_of_file}
use Rattle.maildir.specs.Names.{uid_in, is_one_of}
use Rattle.near_box.specs.declared.flag_change.FlagChange.{FlagChange}
use Rattle.near_box.specs.declared.flag_change.FlagChange.TheVariants.{Add, Remove}
use Rattle.near_box.specs.declared.near_fault.NearFault.{NearFault}
use Rattle.near_box.specs.declared.survey.Survey.{Survey}
use Rattle.near_box.specs.FlagChanges.{changed_flags, kept_change}
use Rattle.mailcore.specs.Mailboxes.{Mailbox}
use Rattle.near_box.specs.Mailboxes.{near_of, meta_in, IsMailbox}
use Rattle.near_box.specs.NearEffects.{flagged_files, without_uids, RemovesSome, Does, raised, set_aside, appended, AppendsPart, admitted_all, set_aside_all, Admitting}
use Rattle.near_box.specs.Surveys.{Surveys}
use Rattle.near_box.proofs.AdmissionLemmas as admission
use Rattle.near_box.proofs.AppendLemmas as delivery
use Rattle.near_box.proofs.ExpungeLemmas.{near-expunged}
use Rattle.near_box.proofs.FlagChangeLemmas.{IsSeenAs, near-flagged}
use Rattle.near_box.proofs.MailboxLemmas.{mailbox_after, mailbox_copy, mailbox_same, mailbox_store, store_mailbox}
use Rattle.near_box.proofs.NewUidLemmas.{raised_is_read}

-- ---- flags

-- a change of flags is the same change of those that have a name
pub changed_kept : (keywords : List Keyword) (change : FlagChange) (n : ℕ) → kept keywords (changed_flags change (kept keywords n)) ≡ changed_flags (kept_change keywords change) (kept keywords n)
changed_kept keywords (Add more) n =
    kept-union keywords (kept keywords n) more ∙ ap (λ (a : ℕ). union a (kept keywords more)) (kept-same keywords (kept keywords n) (kept-within keywords n))
changed_kept keywords (Remove fewer) n =
    kept-minus keywords (kept keywords n) fewer ∙ ap (λ (a : ℕ). minus a (kept keywords fewer)) (kept-same keywords (kept keywords n) (kept-within keywords n))

pub flagged_mailbox : (fresh : ℕ) (keywords : List Keyword) (s : Stored) (change seen : ℕ → ℕ) (uid : ℕ) → IsSeenAs keywords change uid seen → AreApart (flagged_files keywords change uid s).files
    → IsMailbox fresh s → IsMailbox fresh (flagged_files keywords change uid s)
flagged_mailbox fresh keywords s change seen uid is_seen apart is =
    store_mailbox fresh keywords (flagged_files keywords change uid s) is.meta.meta is.is_there apart is.meta.is
    (subst (λ (n : Mailbox). IsStore n.store) (sym (near-flagged keywords change uid seen is_seen fresh s)) (is_store-flagged (near_of fresh keywords s).store seen uid (mailbox_store fresh keywords s is)))

-- ---- messages are removed

pub expunged_mailbox : (fresh : ℕ) (s : Stored) (uids : List ℕ) → IsMailbox fresh s → IsMailbox fresh (without_uids uids s)
expunged_mailbox fresh s uids is =
    store_mailbox fresh [] (without_uids uids s) is.meta.meta is.is_there
    (AllPairs-filter (λ a b. name_of_file a ≡ name_of_file b → ⊥) (λ file. not (is_one_of uids (uid_in file.name))) s.files is.apart) is.meta.is
    (subst (λ (n : Mailbox). IsStore n.store) (sym (near-expunged uids fresh [] s)) (is_store-expunged (near_of fresh [] s).store uids (mailbox_store fresh [] s is)))

pub expunge_mailbox : {T : Type 0} (fresh : ℕ) (s s' : Stored) (uids : List ℕ) (r : Result T NearFault) → Does (without_uids uids) (RemovesSome uids) s s' r → IsMailbox fresh s → IsMailbox fresh s'
expunge_mailbox fresh s s' uids r does is =
    mailbox_after fresh s s' (without_uids uids) (RemovesSome uids) r does is (expunged_mailbox fresh s uids is)
    (λ t some. mailbox_same fresh (without_uids (take some.count uids) s) t some.now (expunged_mailbox fresh s (take some.count uids) is))

-- ---- a message is added

module _ (survey : Survey) (fresh : ℕ) (keywords : List Keyword) (s : Stored) (surveys : Surveys survey fresh keywords s) (positive : 0 < fresh) (small : fresh < 2 ^ 32) (is : IsMailbox fresh s) where
  module _ (room : survey.meta.next + 1 < 2 ^ 32) (bytes : List ℕ) (flags : ℕ) where
    set_aside_mailbox : IsMailbox fresh (set_aside survey.meta bytes s)
    set_aside_mailbox =
        store_mailbox fresh keywords (set_aside survey.meta bytes s) (raised survey.meta 1) is.is_there is.apart
        (raised_is_read survey.meta 1 (delivery.fits survey fresh keywords s surveys positive small room) room)
        (subst (λ (n : Mailbox). IsStore n.store) (sym (delivery.set_aside_near survey fresh keywords s surveys positive small room bytes))
        (is_store-set_aside (near_of fresh keywords s).store 1 (mailbox_store fresh keywords s is)))

    appended_mailbox : IsMailbox fresh (appended keywords survey.meta bytes flags s)
    appended_mailbox =
        store_mailbox fresh keywords (appended keywords survey.meta bytes flags s) (raised survey.meta 1) is.is_there
        (delivery.is_added survey fresh keywords s surveys positive small room bytes flags).holds.apart
        (raised_is_read survey.meta 1 (delivery.fits survey fresh keywords s surveys positive small room) room)
        (subst (λ (n : Mailbox). IsStore n.store) (sym (delivery.appended_near survey fresh keywords s surveys positive small room bytes flags))
        (is_store-added (near_of fresh keywords s).store (near_of fresh keywords s).store.next (kept keywords flags) bytes (omega arith) (mailbox_store fresh keywords s is)))

    part_mailbox : (t : Stored) → AppendsPart survey.meta bytes s t → IsMailbox fresh t
    part_mailbox t (inl begun) = mailbox_same fresh _ t begun.written (mailbox_copy fresh s (take begun.count bytes) is)
    part_mailbox t (inr (inl copied)) = mailbox_same fresh _ t copied (mailbox_copy fresh s bytes is)
    part_mailbox t (inr (inr aside)) = mailbox_same fresh _ t aside set_aside_mailbox

    pub append_mailbox : {T : Type 0} (s' : Stored) (r : Result T NearFault) → Does (appended keywords survey.meta bytes flags) (AppendsPart survey.meta bytes) s s' r → IsMailbox fresh s'
    append_mailbox s' r does = mailbox_after fresh s s' (appended keywords survey.meta bytes flags) (AppendsPart survey.meta bytes) r does is appended_mailbox part_mailbox

  -- ---- waiting files get their UIDs

  module _ (room : survey.meta.next + length survey.waiting.items < 2 ^ 32) where
    some_mailbox : (k : ℕ) → k ≤ length survey.waiting.items → IsMailbox fresh (admitted_all (take k survey.waiting.items) survey.meta.next (set_aside_all survey.waiting.items survey.meta s))
    some_mailbox k within =
        let first = admission.first_of survey fresh keywords s surveys positive small room k within in
        let near : Mailbox = near_of fresh keywords s in
        let most = length-take k near.waiting in
        store_mailbox fresh keywords _ (raised survey.meta (length survey.waiting.items)) (first.is_there ∙ surveys.is_there) first.holds.apart
        (ap (meta_in fresh) first.meta ∙ raised_is_read survey.meta (length survey.waiting.items) (admission.fits survey fresh keywords s surveys positive small room) room)
        (subst (λ (n : Mailbox). IsStore n.store) (sym (admission.admitted_some survey fresh keywords s surveys positive small room k within))
        (is_store-numbered near.store (take k near.waiting) (near.store.next + length near.waiting) (omega (arith, most)) (mailbox_store fresh keywords s is)))

    pub whole_mailbox : IsMailbox fresh (admitted_all survey.waiting.items survey.meta.next (set_aside_all survey.waiting.items survey.meta s))
    whole_mailbox =
        subst (λ (names : List FileName). IsMailbox fresh (admitted_all names survey.meta.next (set_aside_all survey.waiting.items survey.meta s)))
        (admission.all survey fresh keywords s surveys positive small room) (some_mailbox (length survey.waiting.items) (omega arith))

    pub admission_mailbox : (s' : Stored) → (s' ≡ s) ⊎ Admitting survey.waiting.items survey.meta s s' → IsMailbox fresh s'
    admission_mailbox s' (inl same) = mailbox_same fresh s s' same is
    admission_mailbox s' (inr some) = by_count (cases_lt some.count (length survey.waiting.items))
      where
        by_count : (some.count < length survey.waiting.items) ⊎ (length survey.waiting.items ≤ some.count) → IsMailbox fresh s'
        by_count (inl less) = mailbox_same fresh _ s' some.now (some_mailbox some.count (omega arith))
        by_count (inr more) =
            mailbox_same fresh _ s' (some.now ∙ ap (λ (names : List FileName). admitted_all names survey.meta.next (set_aside_all survey.waiting.items survey.meta s)) (take_all some.count survey.waiting.items more)) whole_mailbox
