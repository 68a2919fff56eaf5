-- Where the first element that passes stands in a list that changes.
use Rattle.std.proofs.Common.{◌≡◌, ℕ, zero, suc, ◌+◌, ◌<◌, Bool, true, false, not, cond, List, [], ◌∷◌, ◌++◌, length, get_or, set, map, None, Some, refl, sym, ap, ◌∙◌, inl, inr, arith}
use Rattle.std.specs.Prelude.{position, find, is_some, filter}
use Rattle.std.specs.List.{position_from, list_any}
use Rattle.std.proofs.lemmas.Iterator.Adapters.{position_from-zero}
use Rattle.std.proofs.lemmas.Bool.{cases_Bool}
use Rattle.std.proofs.lemmas.List.Quantifiers.{position-Some}

some_none : {A : Type 0} {x : A} → Some x ≡ None → ⊥
some_none e = cc

module _ {X : Type 0} (t : X → Bool) where
  pub position_is : (xs : List X) → position t xs ≡ position_from t 0 xs
  position_is xs = position_from-zero t xs

  from_filtered : (n : ℕ) (xs : List X) → position_from t n (filter (λ x. not (t x)) xs) ≡ None
  from_filtered n [] = refl
  from_filtered n (x ∷ xs) = elim (cases_Bool (t x)) [
    | inl e ↦ rw e (from_filtered n xs)
    | inr e ↦ rw (e, e) (from_filtered (n + 1) xs)
  ]

  -- each that does not pass stays
  pub position_filtered : (xs : List X) → position t (filter (λ x. not (t x)) xs) ≡ None
  position_filtered xs = position_is (filter (λ x. not (t x)) xs) ∙ from_filtered 0 xs

  -- ---- one is added at the end

  from_pushed_other : (n : ℕ) (xs : List X) (y : X) → t y ≡ false → position_from t n (xs ++ y ∷ []) ≡ position_from t n xs
  from_pushed_other n [] y e = rw e refl
  from_pushed_other n (x ∷ xs) y e = ap (cond (t x) (Some n)) (from_pushed_other (n + 1) xs y e)

  from_pushed : (n : ℕ) (xs : List X) (y : X) → t y ≡ true → position_from t n xs ≡ None → position_from t n (xs ++ y ∷ []) ≡ Some (n + length xs)
  from_pushed n [] y e none = rw e (ap (λ (m : ℕ). Some m) (omega arith))
  from_pushed n (x ∷ xs) y e none = elim (cases_Bool (t x)) [
    | inl f ↦ absurd (some_none (rw f at none))
    | inr f ↦ let rest : position_from t (n + 1) xs ≡ None = rw f at none in
        rw f (from_pushed (n + 1) xs y e rest ∙ ap (λ (m : ℕ). Some m) (omega arith))
  ]

  pub position_pushed_other : (xs : List X) (y : X) → t y ≡ false → position t (xs ++ y ∷ []) ≡ position t xs
  position_pushed_other xs y e = position_is (xs ++ y ∷ []) ∙ from_pushed_other 0 xs y e ∙ sym (position_is xs)

  pub position_pushed : (xs : List X) (y : X) → t y ≡ true → position t xs ≡ None → position t (xs ++ y ∷ []) ≡ Some (length xs)
  position_pushed xs y e none =
      position_is (xs ++ y ∷ []) ∙ from_pushed 0 xs y e (sym (position_is xs) ∙ none) ∙ ap (λ (m : ℕ). Some m) (omega arith)

  -- ---- one is put in another's place

  from_set_other : (n : ℕ) (xs : List X) (i : ℕ) (y d : X) → i < length xs → t (get_or xs i d) ≡ false → t y ≡ false → position_from t n (set xs i y) ≡ position_from t n xs
  from_set_other n [] i y d below e f = absurd (omega arith)
  from_set_other n (x ∷ xs) zero y d below e f = rw (e, f) refl
  from_set_other n (x ∷ xs) (suc i) y d below e f = ap (cond (t x) (Some n)) (from_set_other (n + 1) xs i y d (omega arith) e f)

  from_set_new : (n : ℕ) (xs : List X) (i : ℕ) (y : X) → i < length xs → t y ≡ true → position_from t n xs ≡ None → position_from t n (set xs i y) ≡ Some (n + i)
  from_set_new n [] i y below e none = absurd (omega arith)
  from_set_new n (x ∷ xs) zero y below e none = rw e (ap (λ (m : ℕ). Some m) (omega arith))
  from_set_new n (x ∷ xs) (suc i) y below e none = elim (cases_Bool (t x)) [
    | inl f ↦ absurd (some_none (rw f at none))
    | inr f ↦ let rest : position_from t (n + 1) xs ≡ None = rw f at none in
        rw f (from_set_new (n + 1) xs i y (omega arith) e rest ∙ ap (λ (m : ℕ). Some m) (omega arith))
  ]

  pub position_set_other : (xs : List X) (i : ℕ) (y d : X) → i < length xs → t (get_or xs i d) ≡ false → t y ≡ false → position t (set xs i y) ≡ position t xs
  position_set_other xs i y d below e f = position_is (set xs i y) ∙ from_set_other 0 xs i y d below e f ∙ sym (position_is xs)

  pub position_set_new : (xs : List X) (i : ℕ) (y : X) → i < length xs → t y ≡ true → position t xs ≡ None → position t (set xs i y) ≡ Some i
  position_set_new xs i y below e none =
      position_is (set xs i y) ∙ from_set_new 0 xs i y below e (sym (position_is xs) ∙ none) ∙ ap (λ (m : ℕ). Some m) (omega arith)

  -- ---- what the index is for

  from_any : (n : ℕ) (xs : List X) → is_some (position_from t n xs) ≡ list_any t xs
  from_any n [] = refl
  from_any n (x ∷ xs) = elim (cases_Bool (t x)) [
    | inl e ↦ rw e refl
    | inr e ↦ rw e (from_any (n + 1) xs)
  ]

  pub position_any : (xs : List X) → is_some (position t xs) ≡ list_any t xs
  position_any xs = ap is_some (position_is xs) ∙ from_any 0 xs

  from_find : (n : ℕ) (xs : List X) → position_from t n xs ≡ None → find t xs ≡ None
  from_find n [] none = refl
  from_find n (x ∷ xs) none = elim (cases_Bool (t x)) [
    | inl e ↦ absurd (some_none (rw e at none))
    | inr e ↦ rw e (from_find (n + 1) xs (rw e at none))
  ]

  pub find_none : (xs : List X) → position t xs ≡ None → find t xs ≡ None
  find_none xs none = from_find 0 xs (sym (position_is xs) ∙ none)

  find_first : (xs : List X) (i : ℕ) (d : X) → i < length xs → t (get_or xs i d) ≡ true → ((k : ℕ) → k < i → t (get_or xs k d) ≡ false) → find t xs ≡ Some (get_or xs i d)
  find_first [] i d below e before = absurd (omega arith)
  find_first (x ∷ xs) zero d below e before = rw e refl
  find_first (x ∷ xs) (suc i) d below e before = rw (before 0 (omega arith)) (find_first xs i d (omega arith) e (λ k less. before (suc k) (omega arith)))

  pub find_some : (xs : List X) (i : ℕ) (d : X) → position t xs ≡ Some i → find t xs ≡ Some (get_or xs i d)
  find_some xs i d at = let first = position-Some t xs i d at in find_first xs i d first.0 first.1 first.2

  from_absent : (n : ℕ) (xs : List X) → position_from t n xs ≡ None → filter (λ x. not (t x)) xs ≡ xs
  from_absent n [] none = refl
  from_absent n (x ∷ xs) none = elim (cases_Bool (t x)) [
    | inl e ↦ absurd (some_none (rw e at none))
    | inr e ↦ rw e (ap (λ (l : List X). x ∷ l) (from_absent (n + 1) xs (rw e at none)))
  ]

  -- nothing goes
  pub filter_absent : (xs : List X) → position t xs ≡ None → filter (λ x. not (t x)) xs ≡ xs
  filter_absent xs none = from_absent 0 xs (sym (position_is xs) ∙ none)

  from_mapped : (f : X → X) → ((x : X) → t (f x) ≡ false) → (n : ℕ) (xs : List X) → position_from t n (map f xs) ≡ None
  from_mapped f fails n [] = refl
  from_mapped f fails n (x ∷ xs) = rw (fails x) (from_mapped f fails (n + 1) xs)

  pub position_mapped : (f : X → X) → ((x : X) → t (f x) ≡ false) → (xs : List X) → position t (map f xs) ≡ None
  position_mapped f fails xs = position_is (map f xs) ∙ from_mapped f fails 0 xs
