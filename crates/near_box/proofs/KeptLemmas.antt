-- Maps and filters of lists, and lists of entries by their UIDs.
use Rattle.std.proofs.Common.{◌≡◌, ℕ, zero, suc, ◌<◌, Bool, true, false, not, cond, eqb, List, [], ◌∷◌, length, get_or, set, map, filter, Option, None, Some, All, refl, sym, ap, ◌∙◌, inl, inr, arith}
use Rattle.std.specs.Prelude.{◌&&◌, AllPairs}
use Rattle.std.specs.List.{cons_option, filter_map, remove}
use Rattle.std.specs.Option.{option_map}
use Rattle.std.proofs.lemmas.Bool.{eq-eqb, ne_eqb, cases_order}
use Rattle.std.proofs.lemmas.List.Elements.{All-head, All-tail}

-- ---- elements at which two functions agree

pub map_agree : {A B : Type 0} (f g : A → B) (xs : List A) → All (λ x. f x ≡ g x) xs → map f xs ≡ map g xs
map_agree f g [] all = refl
map_agree f g (x ∷ xs) all =
    let first : f x ≡ g x = All-head (λ x. f x ≡ g x) x xs all in
    let later : map f xs ≡ map g xs = map_agree f g xs (All-tail (λ x. f x ≡ g x) x xs all) in
    cc

pub map_same : {A : Type 0} (f : A → A) (xs : List A) → All (λ x. f x ≡ x) xs → map f xs ≡ xs
map_same f [] all = refl
map_same f (x ∷ xs) all =
    let first : f x ≡ x = All-head (λ x. f x ≡ x) x xs all in
    let later : map f xs ≡ xs = map_same f xs (All-tail (λ x. f x ≡ x) x xs all) in
    cc

pub filters_agree : {A : Type 0} (p q : A → Bool) (xs : List A) → All (λ x. p x ≡ q x) xs → filter p xs ≡ filter q xs
filters_agree p q [] all = refl
filters_agree p q (x ∷ xs) all =
    let first : p x ≡ q x = All-head (λ x. p x ≡ q x) x xs all in
    let later : filter p xs ≡ filter q xs = filters_agree p q xs (All-tail (λ x. p x ≡ q x) x xs all) in
    rw (first, later) refl

pub filter_all : {A : Type 0} (p : A → Bool) (xs : List A) → All (λ x. p x ≡ true) xs → filter p xs ≡ xs
filter_all p [] all = refl
filter_all p (x ∷ xs) all =
    let first : p x ≡ true = All-head (λ x. p x ≡ true) x xs all in
    let later : filter p xs ≡ xs = filter_all p xs (All-tail (λ x. p x ≡ true) x xs all) in
    rw (first, later) refl

-- ---- one after the other

-- a map before or after a choice
pub filter_map-mapped : {A B C D : Type 0} (h : A → Option C) (k : B → Option D) (f : A → B) (g : C → D)
    → ((x : A) → k (f x) ≡ option_map g (h x)) → (xs : List A) → filter_map k (map f xs) ≡ map g (filter_map h xs)
filter_map-mapped h k f g same [] = refl
filter_map-mapped {A} {B} {C} {D} h k f g same (x ∷ xs) = rw (same x, filter_map-mapped h k f g same xs) (by_case (h x))
  where
    by_case : (o : Option C) → cons_option (option_map g o) (map g (filter_map h xs)) ≡ map g (cons_option o (filter_map h xs))
    by_case None = refl
    by_case (Some y) = refl

-- a filter before or after a choice
pub filter_map-filtered : {A B : Type 0} (h : A → Option B) (p : A → Bool) (q : B → Bool)
    → ((x : A) (y : B) → h x ≡ Some y → p x ≡ q y) → (xs : List A) → filter_map h (filter p xs) ≡ filter q (filter_map h xs)
filter_map-filtered h p q same [] = refl
filter_map-filtered {A} {B} h p q same (x ∷ xs) = by_case (h x) refl (p x) refl (filter_map-filtered h p q same xs)
  where
    by_case : (o : Option B) → h x ≡ o → (b : Bool) → p x ≡ b → filter_map h (filter p xs) ≡ filter q (filter_map h xs)
        → filter_map h (cond b (x ∷ filter p xs) (filter p xs)) ≡ filter q (cons_option o (filter_map h xs))
    by_case None e true f later = rw e later
    by_case None e false f later = later
    by_case (Some y) e true f later = rw (e, sym (same x y e) ∙ f, later) refl
    by_case (Some y) e false f later = rw (sym (same x y e) ∙ f) later

-- what passes stays as it is, and nothing else comes to pass
pub filter-mapped : {A : Type 0} (p : A → Bool) (f : A → A) → ((x : A) → p (f x) ≡ p x) → ((x : A) → p x ≡ true → f x ≡ x)
    → (xs : List A) → filter p (map f xs) ≡ filter p xs
filter-mapped p f same stays [] = refl
filter-mapped p f same stays (x ∷ xs) = rw (same x, filter-mapped p f same stays xs) (by_test (p x) refl)
  where
    by_test : (b : Bool) → p x ≡ b → cond b (f x ∷ filter p xs) (filter p xs) ≡ cond b (x ∷ filter p xs) (filter p xs)
    by_test false e = refl
    by_test true e = rw (stays x e) refl

-- two filters
pub filter-filter : {A : Type 0} (p q r : A → Bool) → ((x : A) → r x ≡ (q x && p x)) → (xs : List A) → filter p (filter q xs) ≡ filter r xs
filter-filter p q r both [] = refl
filter-filter p q r both (x ∷ xs) = rw (both x, sym (filter-filter p q r both xs)) (by_test (q x))
  where
    by_test : (b : Bool) → filter p (cond b (x ∷ filter q xs) (filter q xs)) ≡ cond (b && p x) (x ∷ filter p (filter q xs)) (filter p (filter q xs))
    by_test true = refl
    by_test false = refl

-- ---- elements whose numbers rise

module _ {A : Type 0} (key : A → ℕ) where
  abbrev pub Rise : List A → Type 0
  Rise xs = AllPairs (λ a b. key a < key b) xs

  rise_head : (x : A) (xs : List A) → Rise (x ∷ xs) → All (λ y. key x < key y) xs
  rise_head x xs rise = λ k d below. rise 0 (suc k) d (omega arith) (omega arith)

  rise_tail : (x : A) (xs : List A) → Rise (x ∷ xs) → Rise xs
  rise_tail x xs rise = λ i j d less below. rise (suc i) (suc j) d (omega arith) (omega arith)

  -- a number stands at one place
  pub one_place : (xs : List A) → Rise xs → (i j : ℕ) (d : A) → i < length xs → j < length xs → key (get_or xs i d) ≡ key (get_or xs j d) → i ≡ j
  one_place xs rise i j d p q same = elim (cases_order i j) [
    | inl e ↦ e
    | inr (inl less) ↦ let below = rise i j d less q in absurd (omega arith)
    | inr (inr more) ↦ let above = rise j i d more p in absurd (omega arith)
  ]

  -- the element with a number goes
  pub remove_by_key : (xs : List A) → Rise xs → (i : ℕ) (d : A) → i < length xs
      → remove xs i ≡ filter (λ x. not (eqb (key x) (key (get_or xs i d)))) xs
  remove_by_key [] rise i d below = absurd (omega arith)
  remove_by_key (x ∷ xs) rise zero d below =
      rw (eq-eqb (key x) (key x) refl) (sym (filter_all (λ y. not (eqb (key y) (key x))) xs
      (λ k e within. let less = rise_head x xs rise k e within in rw (ne_eqb (key (get_or xs k e)) (key x) (λ f. omega arith)) refl)))
  remove_by_key (x ∷ xs) rise (suc i) d below =
      let less = rise_head x xs rise i d (omega arith) in
      rw (ne_eqb (key x) (key (get_or xs i d)) (λ f. omega arith)) (ap (λ (t : List A). x ∷ t) (remove_by_key xs (rise_tail x xs rise) i d (omega arith)))

  -- the element with a number is changed
  pub set_by_key : (f : A → A) (xs : List A) → Rise xs → (i : ℕ) (d : A) → i < length xs
      → set xs i (f (get_or xs i d)) ≡ map (λ x. cond (eqb (key x) (key (get_or xs i d))) (f x) x) xs
  set_by_key f [] rise i d below = absurd (omega arith)
  set_by_key f (x ∷ xs) rise zero d below =
      rw (eq-eqb (key x) (key x) refl) (ap (λ (t : List A). f x ∷ t) (sym (map_same (λ y. cond (eqb (key y) (key x)) (f y) y) xs
      (λ k e within. let less = rise_head x xs rise k e within in rw (ne_eqb (key (get_or xs k e)) (key x) (λ g. omega arith)) refl))))
  set_by_key f (x ∷ xs) rise (suc i) d below =
      let less = rise_head x xs rise i d (omega arith) in
      rw (ne_eqb (key x) (key (get_or xs i d)) (λ g. omega arith)) (ap (λ (t : List A). x ∷ t) (set_by_key f xs (rise_tail x xs rise) i d (omega arith)))
