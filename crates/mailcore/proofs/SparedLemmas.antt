-- Numbers that do not fall: one is found where it stands.
use Rattle.std.proofs.Common.{◌≡◌, ◌<◌, ◌||◌, ◌∙◌, ℕ, true, false, eqb, leb, List, Result, Ok, Err, get_or, ⊎_elim, refl, subst, sym, arith}
use Rattle.std.specs.List.{list_any}
use Rattle.std.specs.List.Sorted.{IsBinarySearchResult, IsNonDecreasing}
use Rattle.std.specs.Ordering.{nat_cmp}
use Rattle.std.specs.Prelude.{is_ok}
use Rattle.std.proofs.lemmas.Bool.{cases_lt}
use Rattle.std.proofs.lemmas.Bool.Decides.{nat_tests}
use Rattle.std.proofs.lemmas.List.{get_or_default}
use Rattle.std.proofs.lemmas.List.Folds.{list_any_at, list_any_none}
use Rattle.std.proofs.lemmas.List.Sorted.{searched}

same_number : (m n : ℕ) → m ≡ n → eqb m n ≡ true
same_number m n e = grind (arith, nat_tests)

less_number : (m n : ℕ) → m < n → eqb m n ≡ false
less_number m n less = grind (arith, nat_tests)

greater_number : (m n : ℕ) → n < m → eqb m n ≡ false
greater_number m n less = grind (arith, nat_tests)

pub found_where_it_stands : (xs : List ℕ) (x : ℕ) (r : Result ℕ ℕ) → IsNonDecreasing xs → IsBinarySearchResult (λ y. nat_cmp y x) xs r
    → is_ok r ≡ list_any (λ u. eqb u x) xs
found_where_it_stands xs x (Ok i) up search_result =
    let at = searched xs x (Ok i) search_result (λ i j low high. up i j 0 low high) in
    sym (list_any_at (λ u. eqb u x) xs i 0 at.0 (same_number _ x at.1))
found_where_it_stands xs x (Err i) up search_result =
    let parts = searched xs x (Err i) search_result (λ i j low high. up i j 0 low high) in
    sym (list_any_none (λ u. eqb u x) xs (λ k d below. rw (get_or_default xs k d 0 below)
    (⊎_elim (λ before. less_number (get_or xs k 0) x (parts.1 k before)) (λ following. greater_number (get_or xs k 0) x (parts.2 k following below)) (cases_lt k i))))

-- a number above a bound is spared where it is found among the others
pub spared_above : (up_to x b : ℕ) (xs l : List ℕ) (r : Result ℕ ℕ) → b ≡ x → l ≡ xs → up_to < b → IsNonDecreasing xs
    → IsBinarySearchResult (λ y. nat_cmp y b) l r → is_ok r ≡ (leb x up_to || list_any (λ u. eqb u x) xs)
spared_above up_to x b xs l r same whole above up search_result =
    let high : leb x up_to ≡ false = grind (arith, nat_tests) in
    found_where_it_stands l b r (subst IsNonDecreasing (sym whole) up) search_result ∙ rw (high, same, whole) refl
