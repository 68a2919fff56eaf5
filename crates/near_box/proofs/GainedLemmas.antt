-- What others add to a folder leaves the messages of its mailbox as they are.
use Rattle.std.proofs.Common.{◌≡◌, ◌<◌, ℕ, true, ltb, lt-ltb, List, [], ◌∷◌, ◌++◌, get_or, All, Option, None, refl, sym, ap, subst, ◌∙◌, append-nil}
use Rattle.std.specs.Prelude.{AllPairs}
use Rattle.std.specs.List.{cons_option, filter_map}
use Rattle.std.specs.List.Sorted.{IsPermutation}
use Rattle.std.specs.Option.{option_map}
use Rattle.std.proofs.lemmas.List.Elements.{All-head, All-tail, All-weaker, filter_map-append}
use Rattle.std.proofs.lemmas.List.Sorted.{IsPermutation-sym, IsPermutation-trans, IsStrictWeakOrder-by_number}
use Rattle.mailcore.specs.declared.keywords.Keyword.{Keyword}
use Rattle.mailcore.specs.declared.mailbox.Message.{Message}
use Rattle.mailcore.specs.Stores.{IsStore, Store}
use Rattle.mailcore.specs.Visitors.{Visitors}
use Rattle.maildir.specs.declared.folder.File.{File}
use Rattle.maildir.specs.declared.meta.Meta.{Meta}
use Rattle.maildir.specs.FlaggedNames.{flags_by_name}
use Rattle.maildir.specs.Folders.{Stored}
use Rattle.maildir.specs.Gains.{Adds, Gains, IsArrival}
use Rattle.maildir.specs.Names.{is_waiting, uid_in}
use Rattle.maildir.proofs.GainLemmas.{apart_gained}
use Rattle.maildir.proofs.PermutedLemmas.{picked_in_any_order}
use Rattle.near_box.specs.declared.near_fault.NearFault.{NearFault}
use Rattle.near_box.specs.declared.near_fault.NearFault.TheVariants.{Stopped, Absent, TwoWithOneUid, BadMeta, UidsExhausted, NoMemory}
use Rattle.near_box.specs.NearContracts.{ReportsWhy}
use Rattle.near_box.specs.Mailboxes.{AreDistinct, IsMailbox, by_uid, message_of, messages_in, meta_at, meta_in, near_of, store_of, uids_in}
use Rattle.near_box.proofs.MailboxLemmas.{mailbox_store, store_mailbox}
use Rattle.near_box.proofs.NewNameLemmas.{waiting_has_no_uid}
use Rattle.near_box.proofs.SortingLemmas.{sorted_permuted, sorted_permutes}

none_picked : {X Y : Type 0} (h : X → Option Y) (xs : List X) → All (λ x. h x ≡ None) xs → filter_map h xs ≡ []
none_picked h [] none = refl
none_picked {X} {Y} h (x ∷ xs) none =
    ap (λ (o : Option Y). cons_option o (filter_map h xs)) (All-head (λ x. h x ≡ None) x xs none)
    ∙ none_picked h xs (All-tail (λ x. h x ≡ None) x xs none)

-- a file that waits is no message
waits_unread : (keywords : List Keyword) (file : File) → is_waiting file.name ≡ true → message_of keywords file ≡ None
waits_unread keywords file waits =
    ap (option_map (λ uid. let m : Message = record { uid = uid; flags = flags_by_name keywords file.name; bytes = file.bytes } in m)) (waiting_has_no_uid file.name waits)

no_messages : (keywords : List Keyword) (v : Visitors) (s s' : Stored) (gains : Gains v s s') → filter_map (message_of keywords) gains.more ≡ []
no_messages keywords v s s' gains = none_picked (message_of keywords) gains.more
    (All-weaker (IsArrival v.ours s.files) (λ y. message_of keywords y ≡ None) (λ y a. waits_unread keywords y a.waits) gains.more gains.arrivals)

kept_messages : (keywords : List Keyword) (v : Visitors) (s s' : Stored) (gains : Gains v s s') → messages_in keywords (s.files ++ gains.more) ≡ messages_in keywords s.files
kept_messages keywords v s s' gains =
    filter_map-append (message_of keywords) s.files gains.more ∙ ap (λ (l : List Message). messages_in keywords s.files ++ l) (no_messages keywords v s s' gains) ∙ append-nil (messages_in keywords s.files)

-- ---- files that follow the others

messages_added : (keywords : List Keyword) (v : Visitors) (s s' : Stored) → Adds v s s' → messages_in keywords s'.files ≡ messages_in keywords s.files
messages_added keywords v s s' adds = ap (messages_in keywords) adds.following ∙ kept_messages keywords v s s' adds.gains

uids_added : (v : Visitors) (s s' : Stored) → Adds v s s' → uids_in s'.files ≡ uids_in s.files
uids_added v s s' adds =
    let uid : File → Option ℕ = λ file. uid_in file.name in
    ap uids_in adds.following
    ∙ filter_map-append uid s.files adds.gains.more
    ∙ ap (λ (l : List ℕ). uids_in s.files ++ l) (none_picked uid adds.gains.more
    (All-weaker (IsArrival v.ours s.files) (λ y. uid y ≡ None) (λ y a. waiting_has_no_uid y.name a.waits) adds.gains.more adds.gains.arrivals))
    ∙ append-nil (uids_in s.files)

meta_kept : (v : Visitors) (fresh : ℕ) (s s' : Stored) → Gains v s s' → meta_at fresh s' ≡ meta_at fresh s
meta_kept v fresh s s' gains = ap (λ (text : Option (List ℕ)). meta_at fresh (record s { meta = text })) gains.meta

pub store_added : (v : Visitors) (fresh : ℕ) (keywords : List Keyword) (s s' : Stored) → Adds v s s' → (near_of fresh keywords s').store ≡ (near_of fresh keywords s).store
store_added v fresh keywords s s' adds =
    ap (λ (m : Meta). store_of keywords m s'.files) (meta_kept v fresh s s' adds.gains)
    ∙ ap (λ (l : List Message). let x : Store = record { validity = (meta_at fresh s).validity; next = (meta_at fresh s).next; messages = by_uid l } in x) (messages_added keywords v s s' adds)

-- why a folder holds no mailbox, it did before
pub reported_before : (v : Visitors) (fresh : ℕ) (s s' : Stored) (fault : NearFault) → Adds v s s' → ReportsWhy fresh s' fault → ReportsWhy fresh s fault
reported_before v fresh s s' Stopped adds why = tt
reported_before v fresh s s' Absent adds why = sym adds.gains.is_there ∙ why
reported_before v fresh s s' TwoWithOneUid adds why =
    (sym adds.gains.is_there ∙ why.0, λ once. why.1 (subst AreDistinct (sym (uids_added v s s' adds)) once))
reported_before v fresh s s' BadMeta adds why = (
  sym adds.gains.is_there ∙ why.0,
  subst AreDistinct (uids_added v s s' adds) why.1,
  λ has. why.2 (record {
    meta = has.meta;
    is = ap (meta_in fresh) adds.gains.meta ∙ has.is;
    below = subst (All (λ (uid : ℕ). uid < has.meta.next)) (sym (uids_added v s s' adds)) has.below;
  }),
)
reported_before v fresh s s' UidsExhausted adds why = absurd why
reported_before v fresh s s' NoMemory adds why = tt

-- ---- in any order

module _ (v : Visitors) (fresh : ℕ) (keywords : List Keyword) (s s' : Stored) (is : IsMailbox fresh s) (gains : Gains v s s') where
  same_messages : IsPermutation (messages_in keywords s.files) (messages_in keywords s'.files)
  same_messages =
      subst (λ (l : List Message). IsPermutation l (messages_in keywords s'.files)) (kept_messages keywords v s s' gains)
      (picked_in_any_order (message_of keywords) (s.files ++ gains.more) s'.files gains.files)

  same_order : by_uid (messages_in keywords s'.files) ≡ by_uid (messages_in keywords s.files)
  same_order =
      let messages : List Message = by_uid (messages_in keywords s.files) in
      let rising : AllPairs (λ a b. ltb a.uid b.uid ≡ true) messages =
      λ i j d less below. lt-ltb (get_or messages i d).uid (get_or messages j d).uid ((mailbox_store fresh keywords s is).rising i j d less below) in
      sorted_permuted (λ (a b : Message). ltb a.uid b.uid) (IsStrictWeakOrder-by_number (λ (m : Message). m.uid)) (messages_in keywords s'.files) messages
      (IsPermutation-trans (messages_in keywords s'.files) (messages_in keywords s.files) messages (IsPermutation-sym (messages_in keywords s.files) (messages_in keywords s'.files) same_messages)
      (sorted_permutes (λ (a b : Message). ltb a.uid b.uid) (messages_in keywords s.files)))
      rising

  pub store_gained : (near_of fresh keywords s').store ≡ (near_of fresh keywords s).store
  store_gained =
      ap (λ (m : Meta). store_of keywords m s'.files) (meta_kept v fresh s s' gains)
      ∙ ap (λ (l : List Message). let x : Store = record { validity = (meta_at fresh s).validity; next = (meta_at fresh s).next; messages = l } in x) same_order

  pub mailbox_gained : IsMailbox fresh s'
  mailbox_gained =
      store_mailbox fresh keywords s' is.meta.meta (gains.is_there ∙ is.is_there) (apart_gained v s s' gains is.apart) (ap (meta_in fresh) gains.meta ∙ is.meta.is)
      (subst IsStore (sym store_gained) (mailbox_store fresh keywords s is))
