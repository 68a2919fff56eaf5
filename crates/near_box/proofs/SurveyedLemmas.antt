-- What a survey finds is what stands in the folder.
use Rattle.std.proofs.Common.{◌≡◌, ℕ, ◌<◌, Bool, true, false, cond, ltb, lt-ltb, List, [], ◌∷◌, length, get_or, map, filter, All, None, Some, refl, sym, ap, subst, ◌∙◌, arith}
use Rattle.std.specs.Prelude.{AllPairs, is_some, nat_eq}
use Rattle.std.specs.List.{filter_map}
use Rattle.std.specs.List.Sorted.{IsPermutation, IsSortedBy, IsSortedByKey}
use Rattle.std.specs.Ordering.{nat_cmp, is_lt, is_eq, ordering_then, ordering_reverse}
use Rattle.std.specs.declared.cmp.Ordering.{Ordering}
use Rattle.std.specs.declared.cmp.Ordering.TheVariants.{Less, Equal, Greater}
use Rattle.std.specs.Cmp.Lexicographic.{pointwise, bytes_decides, texts_ties}
use Rattle.std.proofs.lemmas.Bool.{true≢false}
use Rattle.std.proofs.lemmas.List.{get_or-map, length-map}
use Rattle.std.proofs.lemmas.List.Kept.{AllPairs-filter}
use Rattle.std.proofs.lemmas.Option.{none-some, same_Some}
use Rattle.std.proofs.lemmas.List.Sorted.{sorted_far, IsPermutation-sym, IsPermutation-trans, IsStrictWeakOrder-by_number, All-permutation}
use Rattle.maildir.specs.declared.folder.File.{File}
use Rattle.maildir.specs.declared.folder.FileName.{FileName}
use Rattle.maildir.specs.declared.folder.Place.{Place}
use Rattle.maildir.specs.declared.folder.Place.TheVariants.{New, Cur}
use Rattle.maildir.specs.declared.meta.Meta.{Meta}
use Rattle.near_box.specs.declared.survey.SurveyEntry.{SurveyEntry}
use Rattle.near_box.specs.declared.survey.Survey.{Survey}
use Rattle.maildir.specs.Folders.{Stored, AreApart, Lists, name_of_file}
use Rattle.near_box.specs.Mailboxes.{AreDistinct, meta_in, uids_in, HasMeta, IsMailbox, name_cmp, place_cmp, waiting_files, is_before as is_file_before}
use Rattle.maildir.specs.Names.{is_waiting}
use Rattle.near_box.specs.Sorting.{put, sorted}
use Rattle.near_box.specs.SurveyParts.{named_entry, waits, file_cmp, is_before}
use Rattle.near_box.specs.Surveys.{entry_of, Surveys}
use Rattle.near_box.proofs.OpenLemmas.{entries_apart, entries_are_below, entries_of_names, uids_apart, uids_are_below, apart_rise, rising_apart}
use Rattle.near_box.proofs.OrderLemmas.{names_total, names_in_order}
use Rattle.maildir.proofs.PermutedLemmas.{pairs_permuted, passing_in_any_order}
use Rattle.near_box.proofs.SortingLemmas.{sorted_permuted, sorted_permutes}
use Rattle.mailcore.specs.declared.keywords.Keyword.{Keyword}
use Rattle.mailcore.specs.declared.mailbox.Message.{Message}
use Rattle.near_box.specs.KnownMarks.{AreKnown}

-- ---- messages

-- what was found, as the folder's files have it
of_files : (files : List File) (names : List FileName) (entries : List SurveyEntry) → IsPermutation (map name_of_file files) names → IsPermutation (filter_map named_entry names) entries
    → IsPermutation (filter_map entry_of files) entries
of_files files names entries listed found = IsPermutation-trans _ _ _ (entries_of_names files names listed) found

turned : (a b : SurveyEntry) → (a.uid ≡ b.uid → ⊥) → b.uid ≡ a.uid → ⊥
turned a b other same = other (sym same)

pub two_alike : (files : List File) (entries : List SurveyEntry) → IsPermutation (filter_map entry_of files) entries → IsSortedByKey (λ entry. entry.uid) nat_cmp entries
    → ¬ AllPairs (λ a b. a.uid < b.uid) entries → ¬ AreDistinct (uids_in files)
two_alike files entries found fall not_up = λ once.
    not_up (apart_rise entries fall (pairs_permuted (λ a b. a.uid ≡ b.uid → ⊥) turned (filter_map entry_of files) entries found (entries_apart files once)))

pub once_each : (files : List File) (entries : List SurveyEntry) → IsPermutation (filter_map entry_of files) entries → AllPairs (λ a b. a.uid < b.uid) entries → AreDistinct (uids_in files)
once_each files entries found up =
    uids_apart files (pairs_permuted (λ a b. a.uid ≡ b.uid → ⊥) turned entries (filter_map entry_of files) (IsPermutation-sym _ _ found) (rising_apart entries up))

-- ---- UIDs below the next one

pub entries_below : (files : List File) (entries : List SurveyEntry) (next : ℕ) → IsPermutation (filter_map entry_of files) entries → All (λ uid. uid < next) (uids_in files) → All (λ e. e.uid < next) entries
entries_below files entries next found below =
    All-permutation (λ e. e.uid < next) (filter_map entry_of files) entries found (entries_are_below files next below)

pub uids_below : (files : List File) (entries : List SurveyEntry) (next : ℕ) → IsPermutation (filter_map entry_of files) entries → All (λ e. e.uid < next) entries → All (λ uid. uid < next) (uids_in files)
uids_below files entries next found below =
    uids_are_below files next (All-permutation (λ e. e.uid < next) entries (filter_map entry_of files) (IsPermutation-sym _ _ found) below)

-- ---- waiting files

put_in_map : {A B : Type 0} (f : A → A → Bool) (g : B → B → Bool) (h : A → B) → ((x y : A) → g (h x) (h y) ≡ f x y) → (x : A) (ys : List A) → put g (h x) (map h ys) ≡ map h (put f x ys)
put_in_map f g h same x [] = refl
put_in_map {A} {B} f g h same x (y ∷ ys) = rw (same x y) (by_test (f x y) (put_in_map f g h same x ys))
  where
    by_test : (b : Bool) → put g (h x) (map h ys) ≡ map h (put f x ys)
        → cond b (h x ∷ h y ∷ map h ys) (h y ∷ put g (h x) (map h ys)) ≡ map h (cond b (x ∷ y ∷ ys) (y ∷ put f x ys))
    by_test true more = refl
    by_test false more = ap (λ (l : List B). h y ∷ l) more

sorted_in_map : {A B : Type 0} (f : A → A → Bool) (g : B → B → Bool) (h : A → B) → ((x y : A) → g (h x) (h y) ≡ f x y) → (xs : List A) → sorted g (map h xs) ≡ map h (sorted f xs)
sorted_in_map f g h same [] = refl
sorted_in_map {A} {B} f g h same (x ∷ xs) = ap (λ (l : List B). put g (h x) l) (sorted_in_map f g h same xs) ∙ put_in_map f g h same x (sorted f xs)

names_that_wait : (files : List File) → map name_of_file (filter (λ file. is_waiting file.name) files) ≡ filter waits (map name_of_file files)
names_that_wait [] = refl
names_that_wait (file ∷ files) = by_test (is_waiting file.name) (names_that_wait files)
  where
    by_test : (b : Bool) → map name_of_file (filter (λ (f : File). is_waiting f.name) files) ≡ filter waits (map name_of_file files)
        → map name_of_file (cond b (file ∷ filter (λ (f : File). is_waiting f.name) files) (filter (λ (f : File). is_waiting f.name) files))
        ≡ cond b (name_of_file file ∷ filter waits (map name_of_file files)) (filter waits (map name_of_file files))
    by_test true more = ap (λ (l : List FileName). name_of_file file ∷ l) more
    by_test false more = more

-- two files of which neither is before the other are one
same_place : (a b : Place) → place_cmp a b ≡ Equal → a ≡ b
same_place New New e = refl
same_place New Cur e = cc
same_place Cur New e = cc
same_place Cur Cur e = refl

pub one_or_other : (a b : FileName) → is_before b a ≡ false → (a ≡ b → ⊥) → is_before a b ≡ true
one_or_other a b not_back other = by_cmp (file_cmp a b) refl
  where
    equal_then : (o p : Ordering) → ordering_then o p ≡ Equal → (o ≡ Equal) × (p ≡ Equal)
    equal_then Equal p e = (refl, e)
    equal_then Less p e = cc
    equal_then Greater p e = cc

    same : file_cmp a b ≡ Equal → a ≡ b
    same e =
        let both = equal_then (name_cmp a.name b.name) (place_cmp a.place b.place) e in
        let alike : pointwise nat_eq a.name b.name ≡ true = texts_ties a.name b.name ∙ ap is_eq both.0 in
        let n : a.name ≡ b.name = (bytes_decides a.name b.name).0 alike in
        let p : a.place ≡ b.place = same_place a.place b.place both.1 in
        ap (λ (q : Place). let x : FileName = record { place = q; name = a.name } in x) p ∙ ap (λ (m : List ℕ). let x : FileName = record { place = b.place; name = m } in x) n

    by_cmp : (o : Ordering) → file_cmp a b ≡ o → is_lt o ≡ true
    by_cmp Less e = refl
    by_cmp Equal e = absurd (other (same e))
    by_cmp Greater e = absurd (true≢false (sym (back e) ∙ not_back))
      where
        back : file_cmp a b ≡ Greater → is_before b a ≡ true
        back e = ap is_lt (names_total.antisymm b a ∙ ap ordering_reverse e)

-- names stand apart as their files do
names_apart : (files : List File) → AreApart files → AllPairs (λ a b. a ≡ b → ⊥) (map name_of_file files)
names_apart [] apart i j d less below same = absurd (omega (arith, below))
names_apart (f ∷ fs) apart i j d less below same =
    let size : length (map name_of_file (f ∷ fs)) ≡ length (f ∷ fs) = length-map (f ∷ fs) name_of_file in
    let at_i : get_or (map name_of_file (f ∷ fs)) i d ≡ name_of_file (get_or (f ∷ fs) i f) = get_or-map name_of_file (f ∷ fs) i f d (omega (arith, size, below, less)) in
    let at_j : get_or (map name_of_file (f ∷ fs)) j d ≡ name_of_file (get_or (f ∷ fs) j f) = get_or-map name_of_file (f ∷ fs) j f d (omega (arith, size, below)) in
    apart i j f less (omega (arith, size, below)) (sym at_i ∙ same ∙ at_j)

turned_names : (a b : FileName) → (a ≡ b → ⊥) → b ≡ a → ⊥
turned_names a b other same = other (sym same)

pub waiting_found : (files : List File) (names waiting : List FileName) → AreApart files → IsPermutation (map name_of_file files) names → IsPermutation (filter waits names) waiting → IsSortedBy is_before waiting
    → waiting ≡ map name_of_file (waiting_files files)
waiting_found files names waiting apart listed found up =
    let all : IsPermutation (filter waits (map name_of_file files)) waiting = IsPermutation-trans _ _ _ (passing_in_any_order waits (map name_of_file files) names listed) found in
    let others = pairs_permuted (λ a b. a ≡ b → ⊥) turned_names (filter waits (map name_of_file files)) waiting all (AllPairs-filter (λ a b. a ≡ b → ⊥) waits (map name_of_file files) (names_apart files apart)) in
    let rising : AllPairs (λ a b. is_before a b ≡ true) waiting = λ i j d less below.
    one_or_other (get_or waiting i d) (get_or waiting j d) (sorted_far is_before names_in_order waiting up i j d (omega (arith, less)) below) (others i j d less below) in
    let in_order : sorted is_before (filter waits (map name_of_file files)) ≡ waiting = sorted_permuted is_before names_in_order (filter waits (map name_of_file files)) waiting all rising in
    sym in_order ∙ ap (sorted is_before) (sym (names_that_wait files)) ∙ sorted_in_map is_file_before is_before name_of_file (λ x y. refl) (filter (λ file. is_waiting file.name) files)

-- ---- the whole

pub surveyed : (survey : Survey) (fresh : ℕ) (keywords : List Keyword) (s : Stored) (names : List FileName) → Lists (Some names) s
    → IsPermutation (filter_map named_entry names) survey.entries.items → AllPairs (λ a b. a.uid < b.uid) survey.entries.items
    → IsPermutation (filter waits names) survey.waiting.items → IsSortedBy is_before survey.waiting.items
    → meta_in fresh s.meta ≡ Some survey.meta → All (λ e. e.uid < survey.meta.next) survey.entries.items → survey.has_meta ≡ is_some s.meta
    → ((next : ℕ) (messages : List Message) → AreKnown next messages survey.marks) → Surveys survey fresh keywords s
surveyed survey fresh keywords s names lists entries rising waiting in_order meta below has_meta none_known = record {
  is_there = lists.0;
  apart = lists.2;
  entries =
      sym (sorted_permuted (λ (a b : SurveyEntry). ltb a.uid b.uid) (IsStrictWeakOrder-by_number (λ (e : SurveyEntry). e.uid)) (filter_map entry_of s.files) survey.entries.items
      (of_files s.files names survey.entries.items lists.1 entries) (λ i j d less within. lt-ltb _ _ (rising i j d less within)));
  rising = rising;
  below = below;
  waiting = waiting_found s.files names survey.waiting.items lists.2 lists.1 waiting in_order;
  meta = meta;
  has_meta = sym has_meta;
  marks = none_known _ _;
}

pub reported_two : (s : Stored) (names : List FileName) (entries : List SurveyEntry) → Lists (Some names) s → IsPermutation (filter_map named_entry names) entries → IsSortedByKey (λ entry. entry.uid) nat_cmp entries
    → ¬ AllPairs (λ a b. a.uid < b.uid) entries → (s.is_there ≡ true) × ¬ AreDistinct (uids_in s.files)
reported_two s names entries lists found fall not_up = (lists.0, two_alike s.files entries (of_files s.files names entries lists.1 found) fall not_up)

pub reported_unspelled : (fresh : ℕ) (s : Stored) (names : List FileName) (entries : List SurveyEntry) → Lists (Some names) s → IsPermutation (filter_map named_entry names) entries → AllPairs (λ a b. a.uid < b.uid) entries
    → meta_in fresh s.meta ≡ None → (s.is_there ≡ true) × AreDistinct (uids_in s.files) × ¬ HasMeta fresh s
reported_unspelled fresh s names entries lists found up none =
    (lists.0, once_each s.files entries (of_files s.files names entries lists.1 found) up, λ has. none-some _ (sym none ∙ has.is))

pub reported_not_below : (fresh : ℕ) (s : Stored) (meta : Meta) (names : List FileName) (entries : List SurveyEntry) → Lists (Some names) s → IsPermutation (filter_map named_entry names) entries → AllPairs (λ a b. a.uid < b.uid) entries
    → meta_in fresh s.meta ≡ Some meta → ¬ All (λ e. e.uid < meta.next) entries → (s.is_there ≡ true) × AreDistinct (uids_in s.files) × ¬ HasMeta fresh s
reported_not_below fresh s meta names entries lists found up is not_below =
    let all = of_files s.files names entries lists.1 found in (
      lists.0,
      once_each s.files entries all up,
      λ has.
          let same : has.meta ≡ meta = same_Some _ _ (sym has.is ∙ is) in
          not_below (entries_below s.files entries meta.next all (subst (λ (m : Meta). All (λ uid. uid < m.next) (uids_in s.files)) same has.below)),
    )

-- a folder that was surveyed holds a mailbox
pub surveyed_mailbox : (survey : Survey) (fresh : ℕ) (keywords : List Keyword) (s : Stored) → Surveys survey fresh keywords s → IsMailbox fresh s
surveyed_mailbox survey fresh keywords s surveys =
    let found : IsPermutation (filter_map entry_of s.files) survey.entries.items =
    subst (λ (l : List SurveyEntry). IsPermutation (filter_map entry_of s.files) l) (sym surveys.entries) (sorted_permutes (λ (a b : SurveyEntry). ltb a.uid b.uid) (filter_map entry_of s.files)) in
    record {
      is_there = surveys.is_there;
      apart = surveys.apart;
      once = once_each s.files survey.entries.items found surveys.rising;
      meta = record { meta = survey.meta; is = surveys.meta; below = uids_below s.files survey.entries.items survey.meta.next found surveys.below };
    }
