-- Lists with the same elements in another order.
use Rattle.std.proofs.Common.{◌≡◌, ℕ, zero, suc, ◌<◌, All, Bool, true, false, cond, ltb, eqb, List, [], ◌∷◌, ◌++◌, length, get_or, set, filter, Option, None, Some, refl, sym, ap, subst, ◌∙◌, eq-eqb, arith}
use Rattle.std.specs.Prelude.{AllPairs, swap}
use Rattle.std.specs.List.{filter_map, cons_option}
use Rattle.std.specs.List.Sorted.{IsPermutation}
use Rattle.std.proofs.lemmas.Bool.{eqb-true, true≢false}
use Rattle.std.proofs.lemmas.Bool.Decides.{nat_tests}
use Rattle.std.proofs.lemmas.List.Edits.{swap_is, swapped_from_swap, length-swap}
use Rattle.std.proofs.lemmas.List.Elements.{All-append, All-head, All-tail, All-weaker}
use Rattle.std.proofs.lemmas.List.Kept.{AllPairs-cons}
use Rattle.std.proofs.lemmas.List.Sorted.{IsPermutation-refl, IsPermutation-trans, IsPermutation-cons, IsPermutation-middle, IsPermutation-keeps}

-- ---- what is picked from a list in another order

module _ {X Y : Type 0} (h : X → Option Y) where
  onto_both : (o : Option Y) (xs ys : List Y) → IsPermutation xs ys → IsPermutation (cons_option o xs) (cons_option o ys)
  onto_both None xs ys same = same
  onto_both (Some y) xs ys same = IsPermutation-cons y xs ys same

  exchanged : (o p : Option Y) (xs : List Y) → IsPermutation (cons_option o (cons_option p xs)) (cons_option p (cons_option o xs))
  exchanged None p xs = IsPermutation-refl (cons_option p xs)
  exchanged (Some y) None xs = IsPermutation-refl (y ∷ xs)
  exchanged (Some y) (Some z) xs = IsPermutation-middle (y ∷ []) z xs

  first_exchanged : (x : X) (xs : List X) (j : ℕ) (d : X) → j < length xs → IsPermutation (filter_map h (x ∷ xs)) (filter_map h (get_or xs j d ∷ set xs j x))
  first_exchanged x [] j d below = absurd (omega arith)
  first_exchanged x (y ∷ ys) zero d below = exchanged (h x) (h y) (filter_map h ys)
  first_exchanged x (y ∷ ys) (suc j) d below =
      IsPermutation-trans _ _ _ (exchanged (h x) (h y) (filter_map h ys))
      (IsPermutation-trans _ _ _ (onto_both (h y) _ _ (first_exchanged x ys j d (omega arith))) (exchanged (h y) (h (get_or ys j d)) (filter_map h (set ys j x))))

  two_exchanged : (xs : List X) (i j : ℕ) → i < length xs → j < length xs → IsPermutation (filter_map h xs) (filter_map h (swap xs i j))
  two_exchanged [] i j p q = absurd (omega arith)
  two_exchanged (x ∷ xs) zero zero p q = IsPermutation-refl (filter_map h (x ∷ xs))
  two_exchanged (x ∷ xs) zero (suc j) p q = first_exchanged x xs j x (omega arith)
  two_exchanged (x ∷ xs) (suc i) zero p q = first_exchanged x xs i x (omega arith)
  two_exchanged (x ∷ xs) (suc i) (suc j) p q =
      subst (λ (l : List X). IsPermutation (filter_map h (x ∷ xs)) (filter_map h (x ∷ l))) (sym (swap_is xs i j x (omega arith) (omega arith)))
      (onto_both (h x) _ _ (two_exchanged xs i j (omega arith) (omega arith)))

  pub picked_in_any_order : (xs ys : List X) → IsPermutation xs ys → IsPermutation (filter_map h xs) (filter_map h ys)
  picked_in_any_order xs ys same =
      IsPermutation-keeps xs (λ l. IsPermutation (filter_map h xs) (filter_map h l)) (IsPermutation-refl (filter_map h xs))
      (λ l i j p q so_far. IsPermutation-trans _ _ _ so_far (two_exchanged l i j p q)) ys same

-- the elements that pass are picked
abbrev if_passes : {X : Type 0} → (X → Bool) → X → Option X
if_passes p x = cond (p x) (Some x) None

picked_passing : {X : Type 0} (p : X → Bool) (xs : List X) → filter_map (if_passes p) xs ≡ filter p xs
picked_passing p [] = refl
picked_passing p (x ∷ xs) = ap (cons_option (if_passes p x)) (picked_passing p xs) ∙ by_test (p x)
  where
    by_test : (b : Bool) → cons_option (cond b (Some x) None) (filter p xs) ≡ cond b (x ∷ filter p xs) (filter p xs)
    by_test true = refl
    by_test false = refl

pub passing_in_any_order : {X : Type 0} (p : X → Bool) (xs ys : List X) → IsPermutation xs ys → IsPermutation (filter p xs) (filter p ys)
passing_in_any_order p xs ys same =
    subst (λ (l : List _). IsPermutation l (filter p ys)) (picked_passing p xs)
    (subst (λ (l : List _). IsPermutation (filter_map (if_passes p) xs) l) (picked_passing p ys) (picked_in_any_order (if_passes p) xs ys same))

-- ---- a relation of any two elements

pub pairs_append : {X : Type 0} (R : X → X → Type 0) (xs ys : List X) → AllPairs R xs → AllPairs R ys → All (λ y. All (λ x. R x y) xs) ys → AllPairs R (xs ++ ys)
pairs_append R [] ys left right across = right
pairs_append {X} R (x ∷ xs) ys left right across =
    let later : All (R x) xs = λ k d below. left 0 (suc k) d (omega arith) (omega arith) in
    let rest : AllPairs R xs = λ i j d less below. left (suc i) (suc j) d (omega arith) (omega arith) in
    AllPairs-cons R x (xs ++ ys) (All-append (R x) xs ys later (All-weaker (λ y. All (λ z. R z y) (x ∷ xs)) (R x) (λ y all. All-head (λ z. R z y) x xs all) ys across))
    (pairs_append R xs ys rest right (All-weaker (λ y. All (λ z. R z y) (x ∷ xs)) (λ y. All (λ z. R z y) xs) (λ y all. All-tail (λ z. R z y) x xs all) ys across))

-- where an element stood before two changed places
from_place : (i j k : ℕ) → ℕ
from_place i j k = cond (eqb k i) j (cond (eqb k j) i k)

from_place_within : (i j k n : ℕ) → i < n → j < n → k < n → from_place i j k < n
unfolding from_place
from_place_within i j k n below_i below_j below_k = grind (arith, nat_tests)

from_place_apart : (i j k m : ℕ) → (k ≡ m → ⊥) → from_place i j k ≡ from_place i j m → ⊥
unfolding from_place
from_place_apart i j k m apart same = grind (arith, nat_tests)

swapped_at : {A : Type 0} (xs : List A) (i j k : ℕ) (d : A) → i < length xs → j < length xs → get_or (swap xs i j) k d ≡ get_or xs (from_place i j k) d
unfolding from_place
swapped_at xs i j k d below_i below_j = by_tests (eqb k i) refl (eqb k j) refl
  where
    by_tests : (a : Bool) → eqb k i ≡ a → (b : Bool) → eqb k j ≡ b → get_or (swap xs i j) k d ≡ get_or xs (cond a j (cond b i k)) d
    by_tests true e b f = ap (λ (n : ℕ). get_or (swap xs i j) n d) (eqb-true k i e) ∙ (swapped_from_swap xs (swap xs i j) i j d below_i below_j refl).0
    by_tests false e true f = ap (λ (n : ℕ). get_or (swap xs i j) n d) (eqb-true k j f) ∙ (swapped_from_swap xs (swap xs i j) i j d below_i below_j refl).1
    by_tests false e false f =
        (swapped_from_swap xs (swap xs i j) i j d below_i below_j refl).2 k
        (λ same. true≢false (sym (eq-eqb k i same) ∙ e)) (λ same. true≢false (sym (eq-eqb k j same) ∙ f))

any_two : {A : Type 0} (R : A → A → Type 0) → ((a b : A) → R a b → R b a) → (xs : List A) → AllPairs R xs → (i j : ℕ) (d : A)
    → i < length xs → j < length xs → (i ≡ j → ⊥) → R (get_or xs i d) (get_or xs j d)
any_two R turn xs pairs i j d below_i below_j apart = by_test (ltb i j) refl
  where
    by_test : (b : Bool) → ltb i j ≡ b → R (get_or xs i d) (get_or xs j d)
    by_test true e = pairs i j d (grind (arith, nat_tests)) below_j
    by_test false e = turn (get_or xs j d) (get_or xs i d) (pairs j i d (grind (arith, nat_tests)) below_i)

pairs_swapped : {A : Type 0} (R : A → A → Type 0) → ((a b : A) → R a b → R b a) → (xs : List A) (i j : ℕ) → i < length xs → j < length xs
    → AllPairs R xs → AllPairs R (swap xs i j)
pairs_swapped R turn xs i j below_i below_j pairs = λ k m d less below.
    let size = length-swap xs i j in
    rw (swapped_at xs i j k d below_i below_j, swapped_at xs i j m d below_i below_j)
    (any_two R turn xs pairs (from_place i j k) (from_place i j m) d
    (from_place_within i j k (length xs) below_i below_j (omega arith))
    (from_place_within i j m (length xs) below_i below_j (omega arith))
    (from_place_apart i j k m (λ same. omega arith)))

-- a relation of any two elements is kept by another order
pub pairs_permuted : {A : Type 0} (R : A → A → Type 0) → ((a b : A) → R a b → R b a) → (xs ys : List A) → IsPermutation xs ys → AllPairs R xs → AllPairs R ys
pairs_permuted R turn xs ys same pairs =
    IsPermutation-keeps xs (AllPairs R) pairs (λ l i j below_i below_j before. pairs_swapped R turn l i j below_i below_j before) ys same
