-- Messages are removed: what becomes of their files, of their entries and of the mailbox.
use Rattle.std.proofs.Common.{◌≡◌, ℕ, zero, suc, cond, eq-eqb, arith, ◌+◌, ◌<◌, ◌≤◌, Bool, true, false, eqb, ltb, not, List, [], ◌∷◌, ◌++◌, length, get_or, take, map, filter, Option, None, Some, All, refl, sym, ap, subst, ◌∙◌, ◌⊎◌, inl, inr}
use Rattle.std.specs.Prelude.{◌||◌, ◌&&◌, AllPairs, slice_get, Result, Ok, Err}
use Rattle.std.specs.List.{list_any, cons_option, filter_map, remove}
use Rattle.std.specs.Option.{option_map}
use Rattle.std.proofs.lemmas.Bool.{and_right, or_right, false≢true}
use Rattle.std.proofs.lemmas.Option.{none-some, get_or_from_slice_get}
use Rattle.std.proofs.lemmas.List.{take_more, take_all}
use Rattle.std.proofs.lemmas.List.Elements.{All-nil, All-cons, All-head, All-tail, All-weaker, All-filter}
use Rattle.std.proofs.lemmas.List.Sorted.{All-permutation}
use Rattle.std.proofs.lemmas.List.Kept.{AllPairs-filter}
use Rattle.std.proofs.lemmas.List.MinMax.{IsStrictWeakOrder-by_number}
use Rattle.mailcore.specs.declared.keywords.Keyword.{Keyword}
use Rattle.mailcore.specs.declared.mailbox.Message.{Message}
use Rattle.maildir.specs.declared.folder.File.{File}
use Rattle.maildir.specs.declared.folder.FileName.{FileName}
use Rattle.maildir.specs.declared.folder.Location.{Location}
use Rattle.maildir.specs.declared.meta.Meta.{Meta}
use Rattle.near_box.specs.declared.near_fault.NearFault.{NearFault}
use Rattle.near_box.specs.declared.survey.SurveyEntry.{SurveyEntry}
use Rattle.near_box.specs.declared.survey.Survey.{Survey}
use Rattle.maildir.specs.Folders.{Removes, Stored, is_left, name_at, name_of_file, removed_file}
use Rattle.maildir.specs.Names.{uid_in, is_waiting, is_one_of}
use Rattle.maildir.specs.FlaggedNames.{flags_by_name}
use Rattle.near_box.specs.NearEffects.{file_of, without_uids, RemovesSome, Does}
use Rattle.mailcore.specs.Mailboxes.{ExpungesSome, on_store}
use Rattle.near_box.specs.NearContracts.{Changes}
use Rattle.near_box.specs.Mailboxes.{message_of, messages_in, by_uid, is_before, waiting_files, near_of}
use Rattle.mailcore.specs.Operations.{expunged}
use Rattle.near_box.specs.Sorting.{sorted}
use Rattle.near_box.specs.Surveys.{Surveys, entry_of, entries_in}
use Rattle.near_box.proofs.KeptLemmas.{filters_agree, filter_all, filter_map-filtered, filter-filter, remove_by_key}
use Rattle.near_box.proofs.FlagChangeLemmas.{has_uid}
use Rattle.near_box.proofs.SortingLemmas.{sorted_filter, sorted_permutes}
use Rattle.near_box.proofs.UidLemmas.{IsItsFile, entry_within, entry_stands}
use Rattle.near_box.proofs.KnownMarkLemmas.{marks_after, marks_expunged}

-- ---- the mailbox

module _ (uids : List ℕ) where
  abbrev stays_file : File → Bool
  stays_file file = not (is_one_of uids (uid_in file.name))

  abbrev stays_message : Message → Bool
  stays_message m = not (is_one_of uids (Some m.uid))

  same_message : (keywords : List Keyword) (file : File) (m : Message) → message_of keywords file ≡ Some m → stays_file file ≡ stays_message m
  same_message keywords file m is = by_case (uid_in file.name) refl
    where
      as_message : Option ℕ → Option Message
      as_message o = option_map (λ uid. let n : Message = record { uid = uid; flags = flags_by_name keywords file.name; bytes = file.bytes } in n) o

      own_uid : (u : ℕ) → as_message (Some u) ≡ Some m → u ≡ m.uid
      own_uid u e = cc

      by_case : (o : Option ℕ) → uid_in file.name ≡ o → stays_file file ≡ stays_message m
      by_case None e = absurd (none-some m (ap as_message (sym e) ∙ is))
      by_case (Some u) e =
          ap (λ (o : Option ℕ). not (is_one_of uids o)) e ∙ ap (λ (n : ℕ). not (is_one_of uids (Some n))) (own_uid u (ap as_message (sym e) ∙ is))

  waiting_stays : (file : File) → is_waiting file.name ≡ (stays_file file && is_waiting file.name)
  waiting_stays file = by_case (uid_in file.name) refl
    where
      by_case : (o : Option ℕ) → uid_in file.name ≡ o → is_waiting file.name ≡ (stays_file file && is_waiting file.name)
      by_case None e = ap (λ (o : Option ℕ). not (is_one_of uids o) && is_waiting file.name) (sym e)
      by_case (Some u) e = has_uid file.name u e ∙ sym (and_right (stays_file file) (is_waiting file.name) (has_uid file.name u e))

  pub waiting-without : (files : List File) → waiting_files (filter stays_file files) ≡ waiting_files files
  waiting-without files = ap (sorted is_before) (filter-filter (λ file. is_waiting file.name) stays_file (λ file. is_waiting file.name) waiting_stays files)

  -- the mailbox without the messages
  pub near-expunged : (fresh : ℕ) (keywords : List Keyword) (s : Stored) → near_of fresh keywords (without_uids uids s) ≡ on_store (expunged uids) (near_of fresh keywords s)
  near-expunged fresh keywords s =
      let messages : by_uid (messages_in keywords (filter stays_file s.files)) ≡ filter stays_message (by_uid (messages_in keywords s.files)) =
      ap by_uid (filter_map-filtered (message_of keywords) stays_file stays_message (same_message keywords) s.files)
      ∙ sorted_filter (λ a b. ltb a.uid b.uid) (IsStrictWeakOrder-by_number (λ m. m.uid)) stays_message (messages_in keywords s.files) in
      rw (messages, waiting-without s.files) refl

pub changes_messages : {T : Type 0} (uids : List ℕ) (fresh : ℕ) (keywords : List Keyword) (s s' : Stored) (r : Result T NearFault)
    → Does (without_uids uids) (RemovesSome uids) s s' r → Changes (on_store (expunged uids)) (ExpungesSome uids) (near_of fresh keywords s) (near_of fresh keywords s') r
changes_messages uids fresh keywords s s' (Ok answer) done = ap (near_of fresh keywords) done ∙ near-expunged uids fresh keywords s
changes_messages uids fresh keywords s s' (Err fault) (inl same) = inl (ap (near_of fresh keywords) same)
changes_messages uids fresh keywords s s' (Err fault) (inr (inl done)) = inr (inl (ap (near_of fresh keywords) done ∙ near-expunged uids fresh keywords s))
changes_messages uids fresh keywords s s' (Err fault) (inr (inr some)) =
    inr (inr (record { count = some.count; now = ap (near_of fresh keywords) some.now ∙ near-expunged (take some.count uids) fresh keywords s }))

-- ---- one after another

any_more : (u : ℕ) (xs : List ℕ) (x : ℕ) → not (list_any (λ v. eqb u v) (xs ++ x ∷ [])) ≡ (not (list_any (λ v. eqb u v) xs) && not (eqb u x || false))
any_more u [] x = refl
any_more u (y ∷ ys) x = by_test (eqb u y) (any_more u ys x)
  where
    by_test : (b : Bool) → not (list_any (λ v. eqb u v) (ys ++ x ∷ [])) ≡ (not (list_any (λ v. eqb u v) ys) && not (eqb u x || false))
        → not (b || list_any (λ v. eqb u v) (ys ++ x ∷ [])) ≡ (not (b || list_any (λ v. eqb u v) ys) && not (eqb u x || false))
    by_test true later = refl
    by_test false later = later

pub without_one_more : (uids : List ℕ) (k uid : ℕ) (s : Stored) → k < length uids → uid ≡ get_or uids k uid
    → without_uids (uid ∷ []) (without_uids (take k uids) s) ≡ without_uids (take (k + 1) uids) s
without_one_more uids k uid s below is =
    ap (λ (files : List File). let t : Stored = record s { files = files } in t)
    (filter-filter (stays_file (uid ∷ [])) (stays_file (take k uids)) (stays_file (take (k + 1) uids)) (λ file. both (uid_in file.name)) s.files)
  where
    more : take (k + 1) uids ≡ take k uids ++ uid ∷ []
    more = take_more uids k uid below ∙ ap (λ (u : ℕ). take k uids ++ u ∷ []) (sym is)

    both : (o : Option ℕ) → not (is_one_of (take (k + 1) uids) o) ≡ (not (is_one_of (take k uids) o) && not (is_one_of (uid ∷ []) o))
    both None = refl
    both (Some u) = ap (λ (l : List ℕ). not (is_one_of l (Some u))) more ∙ any_more u (take k uids) uid

pub without_none : (s : Stored) → s ≡ without_uids [] s
without_none s =
    sym (ap (λ (files : List File). let t : Stored = record s { files = files } in t) (filter_all (stays_file []) s.files (λ k d below. none (uid_in (get_or s.files k d).name))))
  where
    none : (o : Option ℕ) → not (is_one_of [] o) ≡ true
    none None = refl
    none (Some u) = refl

pub without_all : (uids : List ℕ) (k : ℕ) (s : Stored) → length uids ≤ k → without_uids (take k uids) s ≡ without_uids uids s
without_all uids k s all = ap (λ (l : List ℕ). without_uids l s) (take_all k uids all)

-- a removal failed after others: it was done or not
pub removes_some : (uids : List ℕ) (k uid : ℕ) (s before after : Stored) → k < length uids → uid ≡ get_or uids k uid
    → before ≡ without_uids (take k uids) s → (after ≡ before) ⊎ ((after ≡ without_uids (uid ∷ []) before) ⊎ ⊥)
    → (after ≡ s) ⊎ ((after ≡ without_uids uids s) ⊎ RemovesSome uids s after)
removes_some uids k uid s before after below is so_far (inl same) = inr (inr (record { count = k; now = same ∙ so_far }))
removes_some uids k uid s before after below is so_far (inr (inl done)) =
    inr (inr (record { count = k + 1; now = done ∙ ap (without_uids (uid ∷ [])) so_far ∙ without_one_more uids k uid s below is }))
removes_some uids k uid s before after below is so_far (inr (inr never)) = absurd never

-- ---- the file of a message, as a survey knows it

-- where no message has the UID
pub without_nowhere : (uid : ℕ) (s : Stored) → All (λ x. is_one_of (uid ∷ []) (uid_in x.name) ≡ false) s.files → without_uids (uid ∷ []) s ≡ s
without_nowhere uid s none =
    ap (λ (files : List File). let t : Stored = record s { files = files } in t)
    (filter_all (stays_file (uid ∷ [])) s.files (All-weaker (λ x. is_one_of (uid ∷ []) (uid_in x.name) ≡ false) (λ x. stays_file (uid ∷ []) x ≡ true) (λ x e. ap not e) s.files none))

module _ (survey : Survey) (fresh : ℕ) (keywords : List Keyword) (s : Stored) (surveys : Surveys survey fresh keywords s) (i : ℕ) (entry : SurveyEntry) (there : slice_get survey.entries.items i ≡ Some entry) where
  -- the removal of its file removes the message
  pub removal_is_expunge : removed_file (file_of entry) s ≡ without_uids (entry.uid ∷ []) s
  removal_is_expunge =
      ap (λ (files : List File). let t : Stored = record s { files = files } in t)
      (filters_agree (is_left None entry.place entry.name) (stays_file (entry.uid ∷ [])) s.files
      (All-weaker (IsItsFile survey fresh keywords s surveys entry) (λ x. is_left None entry.place entry.name x ≡ stays_file (entry.uid ∷ []) x) (λ x its. ap not (sym its)) s.files (entry_stands survey fresh keywords s surveys i entry there)))

  pub done_removal : (uid : ℕ) (file : FileName) → entry.uid ≡ uid → file ≡ file_of entry → (s' : Stored) → s' ≡ removed_file file s → s' ≡ without_uids (uid ∷ []) s
  done_removal uid file own at s' done =
      done ∙ ap (λ (f : FileName). removed_file f s) at ∙ removal_is_expunge ∙ ap (λ (u : ℕ). without_uids (u ∷ []) s) own

  -- the same of a call that may have stopped
  pub does_removal : (uid : ℕ) (file : Location) → entry.uid ≡ uid → name_at file ≡ file_of entry → (s' : Stored)
      → (s' ≡ s) ⊎ (Removes file s s' ⊎ ⊥) → (s' ≡ s) ⊎ ((s' ≡ without_uids (uid ∷ []) s) ⊎ ⊥)
  does_removal uid file own at s' (inl same) = inl same
  does_removal uid file own at s' (inr (inl done)) = inr (inl (done_removal uid (name_at file) own at s' done.now))
  does_removal uid file own at s' (inr (inr never)) = absurd never

  abbrev stays_entry : SurveyEntry → Bool
  stays_entry e = not (eqb e.uid entry.uid)

  same_entry : (file : File) (e : SurveyEntry) → entry_of file ≡ Some e → stays_file (entry.uid ∷ []) file ≡ stays_entry e
  same_entry file e is = by_case (uid_in file.name) refl
    where
      as_entry : Option ℕ → Option SurveyEntry
      as_entry o = option_map (λ uid. let n : SurveyEntry = record { uid = uid; place = file.place; name = file.name } in n) o

      own_uid : (u : ℕ) → as_entry (Some u) ≡ Some e → u ≡ e.uid
      own_uid u f = cc

      or_false : (b : Bool) → (b || false) ≡ b
      or_false true = refl
      or_false false = refl

      by_case : (o : Option ℕ) → uid_in file.name ≡ o → stays_file (entry.uid ∷ []) file ≡ stays_entry e
      by_case None f = absurd (none-some e (ap as_entry (sym f) ∙ is))
      by_case (Some u) f =
          ap (λ (o : Option ℕ). not (is_one_of (entry.uid ∷ []) o)) f
          ∙ ap not (or_false (eqb u entry.uid))
          ∙ ap (λ (n : ℕ). not (eqb n entry.uid)) (own_uid u (ap as_entry (sym f) ∙ is))

  -- the survey after the removal
  pub surveys_removed : (new : Survey) (s' : Stored) → s' ≡ removed_file (file_of entry) s
      → new.entries.items ≡ remove survey.entries.items i
      → new.waiting.items ≡ survey.waiting.items → new.meta ≡ survey.meta → new.has_meta ≡ survey.has_meta → new.marks ≡ survey.marks → Surveys new fresh keywords s'
  surveys_removed new s' now items waiting meta has_meta marks =
      let after : Stored = without_uids (entry.uid ∷ []) s in
      let is : s' ≡ after = now ∙ removal_is_expunge in
      let kept : new.entries.items ≡ filter stays_entry survey.entries.items =
      items
      ∙ subst (λ (e : SurveyEntry). remove survey.entries.items i ≡ filter (λ x. not (eqb x.uid e.uid)) survey.entries.items) (get_or_from_slice_get survey.entries.items i entry entry there)
      (remove_by_key (λ e. e.uid) survey.entries.items surveys.rising i entry (entry_within survey fresh keywords s surveys i entry there)) in
      let sorted_so : entries_in after.files ≡ filter stays_entry (entries_in s.files) =
      ap (sorted (λ a b. ltb a.uid b.uid)) (filter_map-filtered entry_of (stays_file (entry.uid ∷ [])) stays_entry same_entry s.files)
      ∙ sorted_filter (λ a b. ltb a.uid b.uid) (IsStrictWeakOrder-by_number (λ e. e.uid)) stays_entry (filter_map entry_of s.files) in
      subst (λ (t : Stored). Surveys new fresh keywords t) (sym is) (record {
        is_there = surveys.is_there;
        apart = AllPairs-filter (λ a b. name_of_file a ≡ name_of_file b → ⊥) (stays_file (entry.uid ∷ [])) s.files surveys.apart;
        entries = kept ∙ ap (filter stays_entry) surveys.entries ∙ sym sorted_so;
        rising = subst (λ (l : List SurveyEntry). AllPairs (λ a b. a.uid < b.uid) l) (sym kept) (AllPairs-filter (λ a b. a.uid < b.uid) stays_entry survey.entries.items surveys.rising);
        below = subst (λ (l : List SurveyEntry). All (λ e. e.uid < new.meta.next) l) (sym kept)
            (subst (λ (m : Meta). All (λ e. e.uid < m.next) (filter stays_entry survey.entries.items)) (sym meta) (All-filter stays_entry (λ e. e.uid < survey.meta.next) survey.entries.items surveys.below));
        waiting = waiting ∙ surveys.waiting ∙ ap (map name_of_file) (sym (waiting-without (entry.uid ∷ []) s.files));
        meta = surveys.meta ∙ ap Some (sym meta);
        has_meta = surveys.has_meta ∙ sym has_meta;
        marks = marks_after (on_store (expunged (entry.uid ∷ [])) (near_of fresh keywords s)) (near_of fresh keywords after) survey.marks new.marks (near-expunged (entry.uid ∷ []) fresh keywords s) marks
            (marks_expunged (entry.uid ∷ []) (near_of fresh keywords s).store survey.marks surveys.marks);
      })

-- ---- nothing is removed

filter_no_longer : {A : Type 0} (p : A → Bool) (xs : List A) → length (filter p xs) ≤ length xs
filter_no_longer p [] = omega arith
filter_no_longer {A} p (x ∷ xs) = by_test (p x) (filter_no_longer p xs)
  where
    by_test : (b : Bool) → length (filter p xs) ≤ length xs → length (cond b (x ∷ filter p xs) (filter p xs)) ≤ length (x ∷ xs)
    by_test true more = omega arith
    by_test false more = omega arith

filter_stays : {A : Type 0} (p : A → Bool) (xs : List A) → filter p xs ≡ xs → All (λ x. p x ≡ true) xs
filter_stays p [] same = All-nil (λ x. p x ≡ true)
filter_stays {A} p (x ∷ xs) same = by_test (p x) refl same (λ rest. filter_stays p xs rest)
  where
    by_test : (b : Bool) → p x ≡ b → cond b (x ∷ filter p xs) (filter p xs) ≡ x ∷ xs → (filter p xs ≡ xs → All (λ x. p x ≡ true) xs) → All (λ x. p x ≡ true) (x ∷ xs)
    by_test true e f others = let rest : filter p xs ≡ xs = cc in All-cons (λ x. p x ≡ true) x xs e (others rest)
    by_test false e f others = let size = ap (length {A = A}) f in let most = filter_no_longer p xs in absurd (omega (arith, size, most))

named_at : (uids : List ℕ) (k uid : ℕ) → k < length uids → uid ≡ get_or uids k uid → list_any (λ v. eqb uid v) uids ≡ true
named_at [] k uid within is = absurd (omega arith)
named_at (u ∷ uids) zero uid within is = rw (eq-eqb uid u is) refl
named_at (u ∷ uids) (suc k) uid within is = or_right (eqb uid u) (list_any (λ v. eqb uid v) uids) (named_at uids k uid (omega arith) is)

entries_stay : (uids : List ℕ) (files : List File) → All (λ x. stays_file uids x ≡ true) files → All (λ e. not (list_any (λ v. eqb e.uid v) uids) ≡ true) (filter_map entry_of files)
entries_stay uids [] stay = All-nil (λ e. not (list_any (λ v. eqb e.uid v) uids) ≡ true)
entries_stay uids (x ∷ files) stay =
    by_uid (uid_in x.name) (All-head (λ x. stays_file uids x ≡ true) x files stay) (entries_stay uids files (All-tail (λ x. stays_file uids x ≡ true) x files stay))
  where
    by_uid : (u : Option ℕ) → not (is_one_of uids u) ≡ true → All (λ e. not (list_any (λ v. eqb e.uid v) uids) ≡ true) (filter_map entry_of files)
        → All (λ e. not (list_any (λ v. eqb e.uid v) uids) ≡ true) (cons_option (option_map (λ uid. let e : SurveyEntry = record { uid = uid; place = x.place; name = x.name } in e) u) (filter_map entry_of files))
    by_uid None stays more = more
    by_uid (Some uid) stays more = All-cons (λ e. not (list_any (λ v. eqb e.uid v) uids) ≡ true) (record { uid = uid; place = x.place; name = x.name }) (filter_map entry_of files) stays more

pub none_named : (survey : Survey) (fresh : ℕ) (keywords : List Keyword) (s : Stored) → Surveys survey fresh keywords s → (uids : List ℕ) (k uid : ℕ) → k < length uids → uid ≡ get_or uids k uid → without_uids uids s ≡ s
    → All (λ e. e.uid ≡ uid → ⊥) survey.entries.items
none_named survey fresh keywords s surveys uids k uid within is same =
    All-weaker (λ e. not (list_any (λ v. eqb e.uid v) uids) ≡ true) (λ e. e.uid ≡ uid → ⊥)
    (λ e stays own. false≢true (sym (ap (λ (u : ℕ). not (list_any (λ v. eqb u v) uids)) own ∙ ap not (named_at uids k uid within is)) ∙ stays))
    survey.entries.items
    (subst (λ (l : List SurveyEntry). All (λ e. not (list_any (λ v. eqb e.uid v) uids) ≡ true) l) (sym surveys.entries)
    (All-permutation (λ e. not (list_any (λ v. eqb e.uid v) uids) ≡ true) (filter_map entry_of s.files) (entries_in s.files) (sorted_permutes _ (filter_map entry_of s.files))
    (entries_stay uids s.files (filter_stays (stays_file uids) s.files (ap (λ (t : Stored). t.files) same)))))
