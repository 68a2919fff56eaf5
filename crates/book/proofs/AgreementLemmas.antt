-- The first line of a journal that does not agree with the entries.
use Rattle.std.proofs.Common.{min, ◌≡◌, ◌∙◌, ℕ, zero, suc, ◌+◌, ◌<◌, ◌≤◌, Bool, true, false, not, ◌||◌, cond, List, [], ◌∷◌, ◌++◌, map, length, take, drop, get_or, position, Option, Some, None, refl, sym, ap, inl, inr, ◌⊎◌, append_assoc, arith}
use Rattle.std.specs.List.{list_any, list_all, flat_map, zip, position_from}
use Rattle.std.specs.Option.{option_map}
use Rattle.std.proofs.lemmas.List.{append-nil, drop_more, drop_all, length-map}
use Rattle.std.proofs.lemmas.List.Folds.{list_any-append}
use Rattle.std.proofs.lemmas.Iterator.Adapters.{position_from-zero}
use Rattle.rules.specs.declared.entry.Entry.{Entry}
use Rattle.rules.specs.declared.plan.Step.{Step}
use Rattle.sync_state.specs.declared.journal.Logged.{Logged}
use Rattle.sync_state.specs.declared.journal.Journal.{Journal}
use Rattle.book.specs.Agreement.{Copy, copy_of, copies_of, is_taken, log_agrees, step_agrees, note_agrees, lines_agree, first_line, disagreement}

pub any_flat : {X A : Type 0} (p : A → Bool) (f : X → List A) (xs : List X) → list_any p (flat_map f xs) ≡ list_any (λ x. list_any p (f x)) xs
any_flat p f [] = refl
any_flat p f (x ∷ xs) = list_any-append p (f x) (flat_map f xs) ∙ ap (λ (b : Bool). list_any p (f x) || b) (any_flat p f xs)

-- ---- the first place at which a test passes

pub place_from_zero : {X : Type 0} (t : X → Bool) (xs : List X) → position t xs ≡ position_from t 0 xs
place_from_zero t xs = position_from-zero t xs

place_at : {X : Type 0} (t : X → Bool) (k : ℕ) (x : X) (xs : List X) (b : Bool) → t x ≡ b → position_from t k (x ∷ xs) ≡ cond b (Some k) (position_from t (k + 1) xs)
place_at t k x xs b e = ap (λ (c : Bool). cond c (Some k) (position_from t (k + 1) xs)) e

place_add : {X : Type 0} (t : X → Bool) (k n : ℕ) (xs : List X) → position_from t (k + n) xs ≡ option_map (λ i. i + n) (position_from t k xs)
place_add t k n [] = refl
place_add t k n (x ∷ xs) =
    let number : k + n + 1 ≡ k + 1 + n = omega arith in
    let later : position_from t (k + n + 1) xs ≡ option_map (λ i. i + n) (position_from t (k + 1) xs) = ap (λ (m : ℕ). position_from t m xs) number ∙ place_add t (k + 1) n xs in
    by_test (t x) later where
      by_test : (b : Bool) → position_from t (k + n + 1) xs ≡ option_map (λ i. i + n) (position_from t (k + 1) xs)
          → cond b (Some (k + n)) (position_from t (k + n + 1) xs) ≡ option_map (λ i. i + n) (cond b (Some k) (position_from t (k + 1) xs))
      by_test true e = refl
      by_test false e = e

place_map : {X Y : Type 0} (t : Y → Bool) (f : X → Y) (k : ℕ) (xs : List X) → position_from t k (map f xs) ≡ position_from (λ x. t (f x)) k xs
place_map t f k [] = refl
place_map t f k (x ∷ xs) = ap (λ (r : Option ℕ). cond (t (f x)) (Some k) r) (place_map t f (k + 1) xs)

-- the first place, or the later one
abbrev pub or_later : Option ℕ → Option ℕ → Option ℕ
or_later None later = later
or_later (Some i) later = Some i

place_append : {X : Type 0} (t : X → Bool) (k : ℕ) (xs ys : List X) → position_from t k (xs ++ ys) ≡ or_later (position_from t k xs) (position_from t (k + length xs) ys)
place_append t k [] ys = let e : k ≡ k + 0 = omega arith in ap (λ (m : ℕ). position_from t m ys) e
place_append t k (x ∷ xs) ys =
    let number : k + 1 + length xs ≡ k + suc (length xs) = omega arith in
    by_test (t x) (place_append t (k + 1) xs ys ∙ ap (λ (m : ℕ). or_later (position_from t (k + 1) xs) (position_from t m ys)) number) where
      by_test : (b : Bool) → position_from t (k + 1) (xs ++ ys) ≡ or_later (position_from t (k + 1) xs) (position_from t (k + suc (length xs)) ys)
          → cond b (Some k) (position_from t (k + 1) (xs ++ ys)) ≡ or_later (cond b (Some k) (position_from t (k + 1) xs)) (position_from t (k + suc (length xs)) ys)
      by_test true e = refl
      by_test false e = e

-- after a number of lines
place_after : {X : Type 0} (t : X → Bool) (n : ℕ) (xs : List X) → position_from t n xs ≡ option_map (λ i. i + n) (position t xs)
place_after t n xs =
    let number : n ≡ 0 + n = omega arith in
    ap (λ (m : ℕ). position_from t m xs) number ∙ place_add t 0 n xs ∙ ap (λ (r : Option ℕ). option_map (λ i. i + n) r) (sym (place_from_zero t xs))

-- as many as a list has
mapped_after : {X : Type 0} (f : X → Bool) (n : ℕ) (xs : List X) → position_from not n (map f xs) ≡ option_map (λ i. i + n) (position (λ x. not (f x)) xs)
mapped_after f n xs = place_map not f n xs ∙ place_after (λ x. not (f x)) n xs

abbrev pub bad_step : List Entry → Journal → Option ℕ
bad_step entries j = position (λ step. not (step_agrees entries step)) j.plan.steps

abbrev pub bad_note : List Entry → Journal → Option ℕ
bad_note entries j = position (λ note. not (note_agrees entries note)) j.plan.notes

abbrev pub bad_copy : List Entry → Journal → Option ℕ
bad_copy entries j = position not (log_agrees entries j.plan.steps [] j.plan.steps j.log)

pub disagreement_is : (entries : List Entry) (j : Journal) → disagreement entries j ≡ option_map (λ i. i + first_line j) (or_later (bad_step entries j)
    (or_later (option_map (λ i. i + length j.plan.steps) (bad_note entries j)) (option_map (λ i. i + (length j.plan.steps + length j.plan.notes + 1)) (bad_copy entries j))))
disagreement_is entries j =
    let steps = j.plan.steps in
    let notes = j.plan.notes in
    let A = map (step_agrees entries) steps in
    let B = map (note_agrees entries) notes in
    let C = log_agrees entries steps [] steps j.log in
    let in_steps : position_from not 0 A ≡ bad_step entries j = place_map not (step_agrees entries) 0 steps ∙ sym (place_from_zero _ steps) in
    let size_steps : 0 + length A ≡ length steps = omega (arith, length-map steps (step_agrees entries)) in
    let in_notes : position_from not (0 + length A) B ≡ option_map (λ i. i + length steps) (bad_note entries j) =
    ap (λ (m : ℕ). position_from not m B) size_steps ∙ mapped_after (note_agrees entries) (length steps) notes in
    let number : 0 + length A + length B + 1 ≡ length steps + length notes + 1 = omega (arith, length-map steps (step_agrees entries), length-map notes (note_agrees entries)) in
    let in_log : position_from not (0 + length A + length B + 1) C ≡ option_map (λ i. i + (length steps + length notes + 1)) (bad_copy entries j) =
    ap (λ (m : ℕ). position_from not m C) number ∙ place_after not (length steps + length notes + 1) C in
    let whole = place_append not 0 A (B ++ true ∷ C) ∙ ap (λ (r : Option ℕ). or_later (position_from not 0 A) r) (place_append not (0 + length A) B (true ∷ C)) in
    ap (λ (r : Option ℕ). option_map (λ i. i + first_line j) r) (place_from_zero not (lines_agree entries j) ∙ whole
    ∙ rw (in_steps, in_notes, in_log) refl)

-- the parts of the answer
abbrev places : List Entry → Journal → (a b c : Option ℕ) → Option ℕ
places entries j a b c =
    option_map (λ i. i + first_line j) (or_later a (or_later (option_map (λ i. i + length j.plan.steps) b) (option_map (λ i. i + (length j.plan.steps + length j.plan.notes + 1)) c)))

pub in_step : (entries : List Entry) (j : Journal) (i : ℕ) → bad_step entries j ≡ Some i → Some (first_line j + i) ≡ disagreement entries j
in_step entries j i a =
    let number : i + first_line j ≡ first_line j + i = omega arith in
    sym (disagreement_is entries j ∙ ap (λ (z : Option ℕ). places entries j z (bad_note entries j) (bad_copy entries j)) a ∙ ap (λ (n : ℕ). Some n) number)

pub in_note : (entries : List Entry) (j : Journal) (i : ℕ) → bad_step entries j ≡ None → bad_note entries j ≡ Some i → Some (first_line j + length j.plan.steps + i) ≡ disagreement entries j
in_note entries j i a b =
    let number : i + length j.plan.steps + first_line j ≡ first_line j + length j.plan.steps + i = omega arith in
    sym (disagreement_is entries j ∙ ap (λ (z : Option ℕ). places entries j z (bad_note entries j) (bad_copy entries j)) a
    ∙ ap (λ (z : Option ℕ). places entries j None z (bad_copy entries j)) b ∙ ap (λ (n : ℕ). Some n) number)

pub in_copy : (entries : List Entry) (j : Journal) (i : ℕ) → bad_step entries j ≡ None → bad_note entries j ≡ None → bad_copy entries j ≡ Some i
    → Some (first_line j + length j.plan.steps + length j.plan.notes + 1 + i) ≡ disagreement entries j
in_copy entries j i a b c =
    let number : i + (length j.plan.steps + length j.plan.notes + 1) + first_line j ≡ first_line j + length j.plan.steps + length j.plan.notes + 1 + i = omega arith in
    sym (disagreement_is entries j ∙ ap (λ (z : Option ℕ). places entries j z (bad_note entries j) (bad_copy entries j)) a
    ∙ ap (λ (z : Option ℕ). places entries j None z (bad_copy entries j)) b ∙ ap (λ (z : Option ℕ). places entries j None None z) c ∙ ap (λ (n : ℕ). Some n) number)

pub nowhere : (entries : List Entry) (j : Journal) → bad_step entries j ≡ None → bad_note entries j ≡ None → bad_copy entries j ≡ None → None ≡ disagreement entries j
nowhere entries j a b c =
    sym (disagreement_is entries j ∙ ap (λ (z : Option ℕ). places entries j z (bad_note entries j) (bad_copy entries j)) a
    ∙ ap (λ (z : Option ℕ). places entries j None z (bad_copy entries j)) b ∙ ap (λ (z : Option ℕ). places entries j None None z) c)

-- ---- the lines of the log

zip_nil : {K X : Type 0} (ks : List K) → zip {X = X} ks [] ≡ []
zip_nil [] = refl
zip_nil (k ∷ ks) = refl

pub no_copies : (steps : List Step) → copies_of steps [] ≡ []
no_copies steps = ap (λ (z : List (Step × Logged)). flat_map (λ p. copy_of p.0 p.1) z) (zip_nil steps)

pub copies_more : (steps : List Step) (log : List Logged) (i : ℕ) (s : Step) (l : Logged) → i < length steps → i < length log
    → copies_of steps (take (i + 1) log) ≡ copies_of steps (take i log) ++ copy_of (get_or steps i s) (get_or log i l)
copies_more [] log i s l a b = absurd (omega arith)
copies_more (x ∷ steps) [] i s l a b = absurd (omega arith)
copies_more (x ∷ steps) (y ∷ log) zero s l a b = ap (λ (z : List Copy). copy_of x y ++ z) (no_copies steps) ∙ append-nil (copy_of x y)
copies_more (x ∷ steps) (y ∷ log) (suc i) s l a b =
    let number : suc i + 1 ≡ suc (i + 1) = omega arith in
    ap (λ (n : ℕ). copies_of (x ∷ steps) (take n (y ∷ log))) number
    ∙ ap (λ (z : List Copy). copy_of x y ++ z) (copies_more steps log i s l (omega arith) (omega arith))
    ∙ sym (append_assoc (copy_of x y) (copies_of steps (take i log)) (copy_of (get_or steps i s) (get_or log i l)))

-- the lines that are left, where the first ones of the log are read
abbrev pub left : List Entry → List Step → List Logged → ℕ → List Bool
left entries steps log i = log_agrees entries steps (copies_of steps (take i log)) (drop i steps) (drop i log)

abbrev pub agrees_at : List Entry → List Step → List Logged → ℕ → Step → Logged → Bool
agrees_at entries steps log i s l = list_all (λ c. not (is_taken entries steps (copies_of steps (take i log)) c)) (copy_of s l)

pub left_first : (entries : List Entry) (steps : List Step) (log : List Logged) → log_agrees entries steps [] steps log ≡ left entries steps log 0
left_first entries steps log = ap (λ (z : List Copy). log_agrees entries steps z steps log) (sym (no_copies steps))

left_more : (entries : List Entry) (steps : List Step) (log : List Logged) (i : ℕ) (s : Step) (l : Logged) → i < length steps → i < length log
    → s ≡ get_or steps i s → l ≡ get_or log i l → left entries steps log i ≡ agrees_at entries steps log i s l ∷ left entries steps log (i + 1)
left_more entries steps log i s l a b is_s is_l =
    let taken = copies_of steps (take i log) in
    let here = drop_more steps i s a ∙ ap (λ (x : Step). x ∷ drop (i + 1) steps) (sym is_s) in
    let there = drop_more log i l b ∙ ap (λ (x : Logged). x ∷ drop (i + 1) log) (sym is_l) in
    let copies = copies_more steps log i s l a b ∙ ap (λ (x : Step). taken ++ copy_of x (get_or log i l)) (sym is_s) ∙ ap (λ (x : Logged). taken ++ copy_of s x) (sym is_l) in
    ap (λ (z : List Step). log_agrees entries steps taken z (drop i log)) here
    ∙ ap (λ (z : List Logged). log_agrees entries steps taken (s ∷ drop (i + 1) steps) z) there
    ∙ ap (λ (z : List Copy). agrees_at entries steps log i s l ∷ log_agrees entries steps z (drop (i + 1) steps) (drop (i + 1) log)) (sym copies)

pub bad_here : (entries : List Entry) (steps : List Step) (log : List Logged) (i : ℕ) (s : Step) (l : Logged) → i < length steps → i < length log
    → s ≡ get_or steps i s → l ≡ get_or log i l → agrees_at entries steps log i s l ≡ false → position_from not i (left entries steps log i) ≡ Some i
bad_here entries steps log i s l a b is_s is_l bad =
    ap (λ (z : List Bool). position_from not i z) (left_more entries steps log i s l a b is_s is_l) ∙ place_at not i (agrees_at entries steps log i s l) (left entries steps log (i + 1)) true (ap not bad)

pub bad_later : (entries : List Entry) (steps : List Step) (log : List Logged) (i : ℕ) (s : Step) (l : Logged) → i < length steps → i < length log
    → s ≡ get_or steps i s → l ≡ get_or log i l → agrees_at entries steps log i s l ≡ true
    → position_from not i (left entries steps log i) ≡ position_from not (i + 1) (left entries steps log (i + 1))
bad_later entries steps log i s l a b is_s is_l good =
    ap (λ (z : List Bool). position_from not i z) (left_more entries steps log i s l a b is_s is_l) ∙ place_at not i (agrees_at entries steps log i s l) (left entries steps log (i + 1)) false (ap not good)

pub none_logged : (entries : List Entry) (plan : List Step) (copies : List Copy) (steps : List Step) → log_agrees entries plan copies steps [] ≡ []
none_logged entries plan copies [] = refl
none_logged entries plan copies (s ∷ steps) = refl

-- nothing is left after the end of one of the two
after_either : (m n i : ℕ) → min m n ≤ i → (m ≤ i) ⊎ (n ≤ i)
after_either zero n i h = inl (omega arith)
after_either (suc m) zero i h = inr (omega arith)
after_either (suc m) (suc n) zero h = absurd (omega arith)
after_either (suc m) (suc n) (suc i) h = elim (after_either m n i (omega arith)) [ inl a ↦ inl (omega arith) | inr b ↦ inr (omega arith) ]

pub none_left : (entries : List Entry) (steps : List Step) (log : List Logged) (i : ℕ) → min (length steps) (length log) ≤ i → left entries steps log i ≡ []
none_left entries steps log i h =
    let copies = copies_of steps (take i log) in
    elim (after_either (length steps) (length log) i h) [
      | inl a ↦ ap (λ (z : List Step). log_agrees entries steps copies z (drop i log)) (drop_all i steps a)
      | inr b ↦ ap (λ (z : List Logged). log_agrees entries steps copies (drop i steps) z) (drop_all i log b) ∙ none_logged entries steps copies (drop i steps)
    ]
