-- The near mailbox of a folder, from its files in their order.
use Rattle.std.proofs.Common.{◌≡◌, ◌<◌, ◌+◌, ◌-◌, ℕ, zero, suc, Bool, Bor, true, false, ltb, ltb-true, lt-ltb, List, [], ◌∷◌, ◌++◌, get_or, length, map, filter, Option, sym, subst, ap, ◌∙◌, append_assoc, arith}
use Rattle.std.specs.Prelude.{AllPairs}
use Rattle.std.specs.List.{AllAdjacentBelow, IsAllAdjacentAnswer, filter_map}
use Rattle.std.specs.List.Sorted.{IsPermutation, IsSortedBy}
use Rattle.std.specs.Cmp.{IsStrictWeakOrder}
use Rattle.std.proofs.lemmas.List.{get_or-map, length-map}
use Rattle.std.proofs.lemmas.List.Elements.{filter_map-append}
use Rattle.std.proofs.lemmas.List.Kept.{AllPairs-filter}
use Rattle.std.proofs.lemmas.List.Sorted.{IsPermutation-map, IsStrictWeakOrder-by_number, ranks_by, sorted_far}
use Rattle.mailcore.specs.declared.mailbox.Message.{Message}
use Rattle.maildir.specs.declared.folder.File.{File}
use Rattle.maildir.specs.Folders.{AreApart, name_of_file}
use Rattle.maildir.specs.Names.{is_waiting}
use Rattle.maildir.proofs.PermutedLemmas.{pairs_permuted}
use Rattle.near_box.specs.Mailboxes.{by_uid, is_before, waiting_files}
use Rattle.near_box.proofs.OrderLemmas.{names_total}
use Rattle.near_box.proofs.SortingLemmas.{sorted_permuted}
use Rattle.near_box.proofs.SurveyedLemmas.{one_or_other}

-- ---- a loop over files

pub one_more : {X Y : Type 0} (h : X → Option Y) (done : List Y) (x : X) (xs : List X)
    → (done ++ filter_map h (x ∷ [])) ++ filter_map h xs ≡ done ++ filter_map h (x ∷ xs)
one_more {Y = Y} h done x xs =
    append_assoc done (filter_map h (x ∷ [])) (filter_map h xs) ∙ ap (λ (l : List Y). done ++ l) (sym (filter_map-append h (x ∷ []) xs))

-- ---- messages

each_above : (messages : List Message) → AllAdjacentBelow (λ a b. true ≡ ltb a.uid b.uid) messages (length messages) → (i m : ℕ) (d : Message) → i + m + 1 < length messages
    → (get_or messages i d).uid < (get_or messages (i + m + 1) d).uid
each_above messages up i zero d below =
    let next = ltb-true (get_or messages i d).uid (get_or messages (i + 1) d).uid (sym (up i d (omega (arith, below)))) in
    let here : i + zero + 1 ≡ i + 1 = omega arith in
    subst (λ (k : ℕ). (get_or messages i d).uid < (get_or messages k d).uid) (sym here) next
each_above messages up i (suc m) d below =
    let before = each_above messages up i m d (omega (arith, below)) in
    let next = ltb-true (get_or messages (i + m + 1) d).uid (get_or messages (i + m + 1 + 1) d).uid (sym (up (i + m + 1) d (omega (arith, below)))) in
    let here : i + suc m + 1 ≡ i + m + 1 + 1 = omega arith in
    subst (λ (k : ℕ). (get_or messages i d).uid < (get_or messages k d).uid) (sym here) (omega (arith, before, next))

-- messages that rise from each to the next rise
pub rise_if : (messages : List Message) (b : Bool) → IsAllAdjacentAnswer (λ x y r. r ≡ ltb x.uid y.uid) messages b → b ≡ true → AllPairs (λ x y. x.uid < y.uid) messages
rise_if messages true up e = λ i j d less below.
    let there : i + (j - i - 1) + 1 ≡ j = omega (arith, less) in
    subst (λ (k : ℕ). (get_or messages i d).uid < (get_or messages k d).uid) there (each_above messages up i (j - i - 1) d (omega (arith, less, below)))
rise_if messages false stop e = cc

-- those that were found, once they rise
pub messages_sorted : (found messages : List Message) → IsPermutation found messages → AllPairs (λ a b. a.uid < b.uid) messages → messages ≡ by_uid found
messages_sorted found messages same rising =
    sym (sorted_permuted (λ (a b : Message). ltb a.uid b.uid) (IsStrictWeakOrder-by_number (λ (m : Message). m.uid)) found messages same
    (λ i j d less below. lt-ltb _ _ (rising i j d less below)))

-- ---- waiting files

pub files_in_order : IsStrictWeakOrder is_before
files_in_order = ranks_by names_total name_of_file

pub borrowed_in_order : IsStrictWeakOrder (λ (a b : Bor File). is_before a.now b.now)
borrowed_in_order = ranks_by names_total (λ (file : Bor File). name_of_file file.now)

sorted_by_map : {A B : Type 0} (lt : B → B → Bool) (h : A → B) (xs : List A) → IsSortedBy (λ a b. lt (h a) (h b)) xs → IsSortedBy lt (map h xs)
sorted_by_map lt h [] up k d low below = absurd (omega (arith, below))
sorted_by_map {A} {B} lt h (x ∷ xs) up k d low below =
    let size : length (map h (x ∷ xs)) ≡ length (x ∷ xs) = length-map (x ∷ xs) h in
    let here : get_or (map h (x ∷ xs)) k d ≡ h (get_or (x ∷ xs) k x) = get_or-map h (x ∷ xs) k x d (omega (arith, size, below)) in
    let next : get_or (map h (x ∷ xs)) (k + 1) d ≡ h (get_or (x ∷ xs) (k + 1) x) = get_or-map h (x ∷ xs) (k + 1) x d (omega (arith, size, below)) in
    ap (λ (b : B). lt b (get_or (map h (x ∷ xs)) k d)) next ∙ ap (λ (b : B). lt (h (get_or (x ∷ xs) (k + 1) x)) b) here ∙ up k x low (omega (arith, size, below))

turned : (a b : File) → (name_of_file a ≡ name_of_file b → ⊥) → name_of_file b ≡ name_of_file a → ⊥
turned a b other same = other (sym same)

-- those that were found, in their order
pub waiting_sorted : (files : List File) (found waiting : List (Bor File)) → AreApart files → map (λ file. file.now) found ≡ filter (λ file. is_waiting file.name) files
    → IsPermutation found waiting → IsSortedBy (λ a b. is_before a.now b.now) waiting → map (λ file. file.now) waiting ≡ waiting_files files
waiting_sorted files found waiting apart all same up =
    let here : List File = map (λ (file : Bor File). file.now) waiting in
    let waits : List File = filter (λ file. is_waiting file.name) files in
    let moved : IsPermutation waits here = subst (λ (l : List File). IsPermutation l here) all (IsPermutation-map (λ (file : Bor File). file.now) found waiting same) in
    let others = pairs_permuted (λ a b. name_of_file a ≡ name_of_file b → ⊥) turned waits here moved
    (AllPairs-filter (λ a b. name_of_file a ≡ name_of_file b → ⊥) (λ file. is_waiting file.name) files apart) in
    let in_order : IsSortedBy is_before here = sorted_by_map is_before (λ (file : Bor File). file.now) waiting up in
    let rising : AllPairs (λ a b. is_before a b ≡ true) here = λ i j d less below.
    one_or_other (name_of_file (get_or here i d)) (name_of_file (get_or here j d)) (sorted_far is_before files_in_order here in_order i j d (omega (arith, less)) below) (others i j d less below) in
    sym (sorted_permuted is_before files_in_order waits here moved rising)
