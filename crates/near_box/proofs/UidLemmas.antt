-- What a survey says of the files of its folder: a UID stands in the name of one file, whose entry it is.
use Rattle.std.proofs.Common.{◌≡◌, ℕ, ◌<◌, Bool, true, false, eqb, List, [], ◌∷◌, length, get_or, Option, None, Some, All, refl, sym, ap, subst, ◌∙◌, arith}
use Rattle.std.specs.Prelude.{Contains, ◌||◌, slice_get}
use Rattle.std.specs.List.{HoldsAt, cons_option, filter_map}
use Rattle.std.specs.Option.{option_map}
use Rattle.std.proofs.lemmas.Bool.{eqb-true, eqb-false, ne_eqb, false_from_ne_true}
use Rattle.std.proofs.lemmas.Option.{none-some, same_Some, slice_get_read, slice_get_within, get_or_from_slice_get}
use Rattle.std.proofs.lemmas.List.Elements.{All-nil, All-cons, All-weaker, All-get_or, All-contains, Contains-append_right}
use Rattle.std.proofs.lemmas.List.Sorted.{All-permutation, Contains-permutation}
use Rattle.mailcore.specs.declared.keywords.Keyword.{Keyword}
use Rattle.maildir.specs.declared.folder.File.{File}
use Rattle.maildir.specs.declared.folder.FileName.{FileName}
use Rattle.near_box.specs.declared.survey.SurveyEntry.{SurveyEntry}
use Rattle.near_box.specs.declared.survey.Survey.{Survey}
use Rattle.near_box.specs.Entries.{AreRising}
use Rattle.maildir.specs.Folders.{Stored, is_at, name_of_file}
use Rattle.maildir.specs.Names.{uid_in, is_one_of}
use Rattle.near_box.specs.NearEffects.{file_of}
use Rattle.near_box.specs.Surveys.{Surveys, entry_of, entries_in}
use Rattle.maildir.proofs.FileLemmas.{at_true, at_itself}
use Rattle.near_box.proofs.KeptLemmas.{one_place}
use Rattle.near_box.proofs.SortingLemmas.{sorted_permutes}

-- an entry that was found
pub found_entry : (entries searched : List SurveyEntry) (i : ℕ) (entry : SurveyEntry) → searched ≡ entries → i < length searched → entry ≡ get_or entries i entry → slice_get entries i ≡ Some entry
found_entry entries searched i entry same within is = slice_get_read entries (length searched) i entry (ap length same) within is

pub found_uid : (entries searched : List SurveyEntry) (i uid : ℕ) (entry : SurveyEntry) → searched ≡ entries → entry ≡ get_or entries i entry → HoldsAt (λ e. e.uid ≡ uid) searched i → entry.uid ≡ uid
found_uid entries searched i uid entry same is found = ap (λ (e : SurveyEntry). e.uid) (is ∙ ap (λ (l : List SurveyEntry). get_or l i entry) (sym same)) ∙ found entry

-- an entry's name has its UID
abbrev pub IsNamed : SurveyEntry → Type 0
IsNamed e = uid_in e.name ≡ Some e.uid

named : (files : List File) → All IsNamed (filter_map entry_of files)
named [] = All-nil IsNamed
named (x ∷ files) = by_case (uid_in x.name) refl (named files)
  where
    by_case : (u : Option ℕ) → uid_in x.name ≡ u → All IsNamed (filter_map entry_of files)
        → All IsNamed (cons_option (option_map (λ uid. let e : SurveyEntry = record { uid = uid; place = x.place; name = x.name } in e) u) (filter_map entry_of files))
    by_case None e later = later
    by_case (Some uid) e later = All-cons IsNamed (record { uid = uid; place = x.place; name = x.name }) (filter_map entry_of files) e later

-- the entry of a file is there
abbrev pub IsEntered : List SurveyEntry → File → Type 0
IsEntered entries x = (e : SurveyEntry) → entry_of x ≡ Some e → Contains entries e

contains_first : {A : Type 0} (o : Option A) (xs : List A) (x : A) → o ≡ Some x → Contains (cons_option o xs) x
contains_first None xs x e = cc
contains_first (Some y) xs x e = (0, omega arith, cc)

contains_later : {A : Type 0} (o : Option A) (xs : List A) (x : A) → Contains xs x → Contains (cons_option o xs) x
contains_later None xs x at = at
contains_later (Some y) xs x at = Contains-append_right (y ∷ []) xs x at

entered : (files : List File) → All (IsEntered (filter_map entry_of files)) files
entered [] = All-nil (IsEntered [])
entered (x ∷ files) =
    All-cons (IsEntered (filter_map entry_of (x ∷ files))) x files
    (λ e is. contains_first (entry_of x) (filter_map entry_of files) e is)
    (All-weaker (IsEntered (filter_map entry_of files)) (IsEntered (filter_map entry_of (x ∷ files)))
    (λ y there e is. contains_later (entry_of x) (filter_map entry_of files) e (there e is)) files (entered files))

-- ---- of a survey

module _ (survey : Survey) (fresh : ℕ) (keywords : List Keyword) (s : Stored) (surveys : Surveys survey fresh keywords s) where
  pub entries_named : All IsNamed survey.entries.items
  entries_named = subst (λ (l : List SurveyEntry). All IsNamed l) (sym surveys.entries) (All-permutation IsNamed (filter_map entry_of s.files) (entries_in s.files) (sorted_permutes _ (filter_map entry_of s.files)) (named s.files))

  pub files_entered : All (IsEntered survey.entries.items) s.files
  files_entered =
      All-weaker (IsEntered (filter_map entry_of s.files)) (IsEntered survey.entries.items)
      (λ x there e is. subst (λ (l : List SurveyEntry). Contains l e) (sym surveys.entries) (Contains-permutation (filter_map entry_of s.files) (entries_in s.files) e (sorted_permutes _ (filter_map entry_of s.files)) (there e is)))
      s.files (entered s.files)

  -- the file with the UID of an entry is the one of the entry
  abbrev pub IsItsFile : SurveyEntry → File → Type 0
  IsItsFile entry x = is_one_of (entry.uid ∷ []) (uid_in x.name) ≡ is_at entry.place entry.name x

  -- an entry of the survey
  module _ (i : ℕ) (entry : SurveyEntry) (there : slice_get survey.entries.items i ≡ Some entry) where
    entry_is : (d : SurveyEntry) → get_or survey.entries.items i d ≡ entry
    entry_is d = get_or_from_slice_get survey.entries.items i entry d there

    pub entry_within : i < length survey.entries.items
    entry_within = slice_get_within survey.entries.items i entry there

    pub entry_named : uid_in entry.name ≡ Some entry.uid
    entry_named = subst IsNamed (entry_is entry) (All-get_or IsNamed survey.entries.items i entry entry_within entries_named)

    -- no other entry has its UID
    same_entry : (e : SurveyEntry) → Contains survey.entries.items e → e.uid ≡ entry.uid → entry ≡ e
    same_entry e (k, within, is) same =
        let place : k ≡ i = one_place (λ a. a.uid) survey.entries.items surveys.rising k i e within entry_within (ap (λ (a : SurveyEntry). a.uid) is ∙ same ∙ sym (ap (λ (a : SurveyEntry). a.uid) (entry_is e))) in
        sym (entry_is e) ∙ ap (λ (j : ℕ). get_or survey.entries.items j e) (sym place) ∙ is

    other_file : (x : File) (u : Option ℕ) → uid_in x.name ≡ u → (u ≡ Some entry.uid → ⊥) → is_at entry.place entry.name x ≡ false
    other_file x u e other =
        false_from_ne_true (is_at entry.place entry.name x)
        (λ at. let same : name_of_file x ≡ file_of entry = at_true (file_of entry) x at in
        other (sym e ∙ ap (λ (f : FileName). uid_in f.name) same ∙ entry_named))

    its_file : (x : File) → IsEntered survey.entries.items x → IsItsFile entry x
    its_file x entered = by_case (uid_in x.name) refl
      where
        by_test : (uid : ℕ) → uid_in x.name ≡ Some uid → (b : Bool) → eqb uid entry.uid ≡ b → (b || false) ≡ is_at entry.place entry.name x
        by_test uid e true f =
            let own : SurveyEntry = record { uid = uid; place = x.place; name = x.name } in
            let same : entry ≡ own = same_entry own (entered own (ap (option_map (λ (u : ℕ). let o : SurveyEntry = record { uid = u; place = x.place; name = x.name } in o)) e)) (eqb-true uid entry.uid f) in
            sym (subst (λ (a : SurveyEntry). is_at a.place a.name x ≡ true) (sym same) (at_itself x))
        by_test uid e false f = sym (other_file x (Some uid) e (λ same. eqb-false uid entry.uid f (same_Some uid entry.uid same)))

        by_case : (u : Option ℕ) → uid_in x.name ≡ u → is_one_of (entry.uid ∷ []) u ≡ is_at entry.place entry.name x
        by_case None e = sym (other_file x None e (λ same. none-some entry.uid same))
        by_case (Some uid) e = by_test uid e (eqb uid entry.uid) refl

    pub entry_stands : All (IsItsFile entry) s.files
    entry_stands = All-weaker (IsEntered survey.entries.items) (IsItsFile entry) its_file s.files files_entered

  -- no file has a UID that no entry has
  pub uid_lacks : (uid : ℕ) → All (λ e. e.uid ≡ uid → ⊥) survey.entries.items → All (λ x. is_one_of (uid ∷ []) (uid_in x.name) ≡ false) s.files
  uid_lacks uid none =
      All-weaker (IsEntered survey.entries.items) (λ x. is_one_of (uid ∷ []) (uid_in x.name) ≡ false) other s.files files_entered
    where
      by_case : (x : File) → IsEntered survey.entries.items x → (u : Option ℕ) → uid_in x.name ≡ u → is_one_of (uid ∷ []) u ≡ false
      by_case x entered None e = refl
      by_case x entered (Some n) e =
          let own : SurveyEntry = record { uid = n; place = x.place; name = x.name } in
          let is : entry_of x ≡ Some own = ap (option_map (λ (u : ℕ). let o : SurveyEntry = record { uid = u; place = x.place; name = x.name } in o)) e in
          rw (ne_eqb n uid (All-contains (λ a. a.uid ≡ uid → ⊥) survey.entries.items own none (entered own is))) refl

      other : (x : File) → IsEntered survey.entries.items x → is_one_of (uid ∷ []) (uid_in x.name) ≡ false
      other x entered = by_case x entered (uid_in x.name) refl

  -- the same, of a list of the entries that was searched
  pub uid_not_found : (uid : ℕ) (entries : List SurveyEntry) → entries ≡ survey.entries.items → (AreRising entries → All (λ e. e.uid ≡ uid → ⊥) entries)
      → All (λ x. is_one_of (uid ∷ []) (uid_in x.name) ≡ false) s.files
  uid_not_found uid entries same none =
      uid_lacks uid (subst (λ (l : List SurveyEntry). All (λ e. e.uid ≡ uid → ⊥) l) same (none (subst AreRising (sym same) surveys.rising)))
