-- What the messages of a folder have in common with their entries.
use Rattle.std.proofs.Common.{◌≡◌, ℕ, zero, suc, ◌+◌, ◌-◌, ◌<◌, ◌≤◌, Bool, true, false, ltb, ltb-true, ltb-false, List, [], ◌∷◌, length, get_or, map, All, Option, None, Some, refl, sym, ap, subst, ◌∙◌, arith}
use Rattle.std.specs.Prelude.{AllPairs, MatchBool}
use Rattle.std.specs.List.{filter_map, cons_option, AllAdjacentBelow, IsAllAdjacentAnswer}
use Rattle.std.specs.Option.{option_map}
use Rattle.std.specs.List.Sorted.{IsPermutation, IsSortedByKey}
use Rattle.std.specs.Ordering.{nat_cmp, is_lt}
use Rattle.std.specs.Cmp.{nat_cmp_total}
use Rattle.std.proofs.lemmas.List.{get_or-map, length-map}
use Rattle.std.proofs.lemmas.List.Sorted.{ranks_by, sorted_far}
use Rattle.std.proofs.lemmas.Map.Keys.{ge_from_not_lt}
use Rattle.mailcore.specs.declared.keywords.Keyword.{Keyword}
use Rattle.mailcore.specs.declared.mailbox.Message.{Message}
use Rattle.maildir.specs.declared.folder.File.{File}
use Rattle.maildir.specs.declared.folder.FileName.{FileName}
use Rattle.near_box.specs.declared.survey.SurveyEntry.{SurveyEntry}
use Rattle.maildir.specs.Folders.{name_of_file}
use Rattle.near_box.specs.Mailboxes.{AreDistinct, messages_in, uids_in}
use Rattle.maildir.specs.Names.{uid_in}
use Rattle.maildir.specs.FlaggedNames.{flags_by_name}
use Rattle.near_box.specs.SurveyParts.{named_entry}
use Rattle.near_box.specs.Surveys.{entry_of}
use Rattle.maildir.proofs.PermutedLemmas.{picked_in_any_order}

-- ---- keys of elements

module _ {A : Type 0} (key : A → ℕ) where
  pub keys_of_pairs : (xs : List A) → AllPairs (λ a b. key a ≡ key b → ⊥) xs → AllPairs (λ m n. m ≡ n → ⊥) (map key xs)
  keys_of_pairs [] once i j d less below same = absurd (omega arith)
  keys_of_pairs (x ∷ xs) once i j d less below same =
      let size : length (map key (x ∷ xs)) ≡ length (x ∷ xs) = length-map (x ∷ xs) key in
      let at_i : get_or (map key (x ∷ xs)) i d ≡ key (get_or (x ∷ xs) i x) = get_or-map key (x ∷ xs) i x d (omega (arith, size, below, less)) in
      let at_j : get_or (map key (x ∷ xs)) j d ≡ key (get_or (x ∷ xs) j x) = get_or-map key (x ∷ xs) j x d (omega (arith, size, below)) in
      once i j x less (omega (arith, size, below)) (sym at_i ∙ same ∙ at_j)

  pub pairs_of_keys : (xs : List A) → AllPairs (λ m n. m ≡ n → ⊥) (map key xs) → AllPairs (λ a b. key a ≡ key b → ⊥) xs
  pairs_of_keys xs once i j d less below same =
      let size : length (map key xs) ≡ length xs = length-map xs key in
      let at_i : get_or (map key xs) i 0 ≡ key (get_or xs i d) = get_or-map key xs i d 0 (omega (arith, below, less)) in
      let at_j : get_or (map key xs) j 0 ≡ key (get_or xs j d) = get_or-map key xs j d 0 below in
      once i j 0 less (omega (arith, size, below)) (at_i ∙ same ∙ sym at_j)

-- messages and entries have the UIDs of the files
pub uids_of_entries : (files : List File) → map (λ e. e.uid) (filter_map entry_of files) ≡ uids_in files
uids_of_entries [] = refl
uids_of_entries (file ∷ files) = by_uid (uid_in file.name) (uids_of_entries files)
  where
    by_uid : (uid : Option ℕ) → map (λ (e : SurveyEntry). e.uid) (filter_map entry_of files) ≡ uids_in files
        → map (λ (e : SurveyEntry). e.uid) (cons_option (option_map (λ u. let e : SurveyEntry = record { uid = u; place = file.place; name = file.name } in e) uid) (filter_map entry_of files))
        ≡ cons_option uid (uids_in files)
    by_uid None more = more
    by_uid (Some uid) more = ap (λ (l : List ℕ). uid ∷ l) more

pub uids_of_messages : (keywords : List Keyword) (files : List File) → map (λ m. m.uid) (messages_in keywords files) ≡ uids_in files
uids_of_messages keywords [] = refl
uids_of_messages keywords (file ∷ files) = by_uid (uid_in file.name) (uids_of_messages keywords files)
  where
    by_uid : (uid : Option ℕ) → map (λ (m : Message). m.uid) (messages_in keywords files) ≡ uids_in files
        → map (λ (m : Message). m.uid) (cons_option (option_map (λ u. let m : Message = record { uid = u; flags = flags_by_name keywords file.name; bytes = file.bytes } in m) uid) (messages_in keywords files))
        ≡ cons_option uid (uids_in files)
    by_uid None more = more
    by_uid (Some uid) more = ap (λ (l : List ℕ). uid ∷ l) more

pub entries_apart : (files : List File) → AreDistinct (uids_in files) → AllPairs (λ a b. a.uid ≡ b.uid → ⊥) (filter_map entry_of files)
entries_apart files once =
    pairs_of_keys (λ (e : SurveyEntry). e.uid) (filter_map entry_of files) (subst (AllPairs (λ (m n : ℕ). m ≡ n → ⊥)) (sym (uids_of_entries files)) once)

pub uids_apart : (files : List File) → AllPairs (λ a b. a.uid ≡ b.uid → ⊥) (filter_map entry_of files) → AreDistinct (uids_in files)
uids_apart files once =
    subst (AllPairs (λ (m n : ℕ). m ≡ n → ⊥)) (uids_of_entries files) (keys_of_pairs (λ (e : SurveyEntry). e.uid) (filter_map entry_of files) once)

pub messages_apart : (keywords : List Keyword) (files : List File) → AreDistinct (uids_in files) → AllPairs (λ a b. a.uid ≡ b.uid → ⊥) (messages_in keywords files)
messages_apart keywords files once =
    pairs_of_keys (λ (m : Message). m.uid) (messages_in keywords files) (subst (AllPairs (λ (m n : ℕ). m ≡ n → ⊥)) (sym (uids_of_messages keywords files)) once)

pub apart_of_messages : (keywords : List Keyword) (files : List File) → AllPairs (λ a b. a.uid ≡ b.uid → ⊥) (messages_in keywords files) → AreDistinct (uids_in files)
apart_of_messages keywords files once =
    subst (AllPairs (λ (m n : ℕ). m ≡ n → ⊥)) (uids_of_messages keywords files) (keys_of_pairs (λ (m : Message). m.uid) (messages_in keywords files) once)

-- ---- UIDs below the next one

module _ {A : Type 0} (key : A → ℕ) (next : ℕ) where
  keys_below : (xs : List A) → All (λ x. key x < next) xs → All (λ n. n < next) (map key xs)
  keys_below [] below k d within = absurd (omega (arith, within))
  keys_below (x ∷ xs) below k d within =
      let size : length (map key (x ∷ xs)) ≡ length (x ∷ xs) = length-map (x ∷ xs) key in
      let at : get_or (map key (x ∷ xs)) k d ≡ key (get_or (x ∷ xs) k x) = get_or-map key (x ∷ xs) k x d (omega (arith, size, within)) in
      subst (λ (n : ℕ). n < next) (sym at) (below k x (omega (arith, size, within)))

  below_keys : (xs : List A) → All (λ n. n < next) (map key xs) → All (λ x. key x < next) xs
  below_keys xs below k d within =
      let size : length (map key xs) ≡ length xs = length-map xs key in
      subst (λ (n : ℕ). n < next) (get_or-map key xs k d 0 within) (below k 0 (omega (arith, size, within)))

pub entries_are_below : (files : List File) (next : ℕ) → All (λ uid. uid < next) (uids_in files) → All (λ e. e.uid < next) (filter_map entry_of files)
entries_are_below files next below =
    below_keys (λ (e : SurveyEntry). e.uid) next (filter_map entry_of files) (subst (All (λ (n : ℕ). n < next)) (sym (uids_of_entries files)) below)

pub uids_are_below : (files : List File) (next : ℕ) → All (λ e. e.uid < next) (filter_map entry_of files) → All (λ uid. uid < next) (uids_in files)
uids_are_below files next below =
    subst (All (λ (n : ℕ). n < next)) (uids_of_entries files) (keys_below (λ (e : SurveyEntry). e.uid) next (filter_map entry_of files) below)

pub messages_are_below : (keywords : List Keyword) (files : List File) (next : ℕ) → All (λ uid. uid < next) (uids_in files) → All (λ m. m.uid < next) (messages_in keywords files)
messages_are_below keywords files next below =
    below_keys (λ (m : Message). m.uid) next (messages_in keywords files) (subst (All (λ (n : ℕ). n < next)) (sym (uids_of_messages keywords files)) below)

pub below_of_messages : (keywords : List Keyword) (files : List File) (next : ℕ) → All (λ m. m.uid < next) (messages_in keywords files) → All (λ uid. uid < next) (uids_in files)
below_of_messages keywords files next below =
    subst (All (λ (n : ℕ). n < next)) (uids_of_messages keywords files) (keys_below (λ (m : Message). m.uid) next (messages_in keywords files) below)

-- names in any order, as a folder gives them
entries_by_name : (files : List File) → filter_map entry_of files ≡ filter_map named_entry (map name_of_file files)
entries_by_name [] = refl
entries_by_name (file ∷ files) = ap (cons_option (entry_of file)) (entries_by_name files)

pub entries_of_names : (files : List File) (names : List FileName) → IsPermutation (map name_of_file files) names → IsPermutation (filter_map entry_of files) (filter_map named_entry names)
entries_of_names files names same =
    subst (λ (l : List SurveyEntry). IsPermutation l (filter_map named_entry names)) (sym (entries_by_name files)) (picked_in_any_order named_entry (map name_of_file files) names same)

-- entries that do not fall and have no UID twice rise
pub apart_rise : (entries : List SurveyEntry) → IsSortedByKey (λ entry. entry.uid) nat_cmp entries → AllPairs (λ a b. a.uid ≡ b.uid → ⊥) entries → AllPairs (λ a b. a.uid < b.uid) entries
apart_rise entries up once i j d less below =
    let no_less = sorted_far (λ (a b : SurveyEntry). is_lt (nat_cmp a.uid b.uid)) (ranks_by nat_cmp_total (λ (e : SurveyEntry). e.uid)) entries up i j d (omega (arith, less)) below in
    let most : (get_or entries i d).uid ≤ (get_or entries j d).uid = ge_from_not_lt (get_or entries j d).uid (get_or entries i d).uid no_less in
    let other : (get_or entries i d).uid ≡ (get_or entries j d).uid → ⊥ = once i j d less below in
    omega (arith, most, other)

pub rising_apart : (entries : List SurveyEntry) → AllPairs (λ a b. a.uid < b.uid) entries → AllPairs (λ a b. a.uid ≡ b.uid → ⊥) entries
rising_apart entries up i j d less below same = let before = up i j d less below in omega (arith, before, same)

-- entries that rise from each to the next rise
each_above : (entries : List SurveyEntry) → AllAdjacentBelow (λ a b. true ≡ ltb a.uid b.uid) entries (length entries) → (i m : ℕ) (d : SurveyEntry) → i + m + 1 < length entries
    → (get_or entries i d).uid < (get_or entries (i + m + 1) d).uid
each_above entries up i zero d below =
    let next = ltb-true (get_or entries i d).uid (get_or entries (i + 1) d).uid (sym (up i d (omega (arith, below)))) in
    let here : i + zero + 1 ≡ i + 1 = omega arith in
    subst (λ (k : ℕ). (get_or entries i d).uid < (get_or entries k d).uid) (sym here) next
each_above entries up i (suc m) d below =
    let before = each_above entries up i m d (omega (arith, below)) in
    let next = ltb-true (get_or entries (i + m + 1) d).uid (get_or entries (i + m + 1 + 1) d).uid (sym (up (i + m + 1) d (omega (arith, below)))) in
    let here : i + suc m + 1 ≡ i + m + 1 + 1 = omega arith in
    subst (λ (k : ℕ). (get_or entries i d).uid < (get_or entries k d).uid) (sym here) (omega (arith, before, next))

pub rise_or_not : (entries : List SurveyEntry) (b : Bool) → IsAllAdjacentAnswer (λ x y r. r ≡ ltb x.uid y.uid) entries b
    → MatchBool b (AllPairs (λ x y. x.uid < y.uid) entries) (¬ AllPairs (λ x y. x.uid < y.uid) entries)
rise_or_not entries true up = λ i j d less below.
    let there : i + (j - i - 1) + 1 ≡ j = omega (arith, less) in
    subst (λ (k : ℕ). (get_or entries i d).uid < (get_or entries k d).uid) there (each_above entries up i (j - i - 1) d (omega (arith, less, below)))
rise_or_not entries false stop = λ up.
    let d : SurveyEntry = get_or entries stop.0 (some entries stop.1) in
    let no_less = ltb-false (get_or entries stop.0 d).uid (get_or entries (stop.0 + 1) d).uid (sym (stop.2 d)) in
    let less = up stop.0 (stop.0 + 1) d (omega arith) stop.1 in
    omega (arith, no_less, less)
  where
    some : (xs : List SurveyEntry) → stop.0 + 1 < length xs → SurveyEntry
    some [] below = absurd (omega (arith, below))
    some (x ∷ xs) below = x
