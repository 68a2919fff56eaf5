-- Whether a message is one of those that rise by their UIDs, looked up by halving.
use Rattle.std.proofs.Common.{◌≡◌, ◌≢◌, ℕ, zero, suc, ◌+◌, ◌<◌, ◌≤◌, ◌∙◌, Bool, true, false, ◌||◌, List, [], ◌∷◌, Result, Ok, Err, length, get_or, refl, sym, ⊎_elim, arith}
use Rattle.std.specs.Prelude.{All, ◌==◌}
use Rattle.std.specs.List.{list_any}
use Rattle.std.specs.List.Sorted.{IsBinarySearchResult, IsNonDecreasingBy, IsSearchInRange, IsSortedBy, IsSortedByKey}
use Rattle.std.specs.Fn.{Called, ComputesKey}
use Rattle.std.specs.Ordering.{nat_cmp, is_lt}
use Rattle.std.specs.Result.{is_ok}
use Rattle.std.specs.declared.cmp.Ordering.TheVariants.{Less, Equal, Greater}
use Rattle.std.proofs.lemmas.Bool.{ne_eqb, cases_lt, eq-eqb}
use Rattle.std.proofs.lemmas.Bool.Decides.{nat_tests}
use Rattle.std.proofs.lemmas.Cmp.{nat_cmp_total}
use Rattle.std.proofs.lemmas.Fn.{always_returns_same}
use Rattle.std.proofs.lemmas.List.Sorted.{IsNonDecreasingBy-from_sort, searchable_from_sorted}
use denote.Param.Members.{Mut}
use denote.Ref.{Bor}

-- from the clause `sorted` of a sort, whose closure gives a number
pub rises_by : {X : Type 0} (key : X → ℕ) {F : Type 0} {g : Mut F (Bor X × Unit {0}) ℕ} {f : F} (xs : List X)
    → ((k : X → ℕ) → ComputesKey g k f → IsSortedByKey k nat_cmp xs)
    → ((a : Bor X × Unit {0}) (r : ℕ) (f' : F) → Called g f a r f' → (r ≡ key a.0.now) × (f' ≡ f)) → IsNonDecreasingBy key xs
rises_by key {g = g} {f = f} xs up says = IsNonDecreasingBy-from_sort key xs (up key (always_returns_same g (λ a r. r ≡ key a.0.now) f says))

any_at : {X : Type 0} (test : X → Bool) (xs : List X) (k : ℕ) (d : X) → k < length xs → test (get_or xs k d) ≡ true → list_any test xs ≡ true
any_at test [] k d within pass = absurd (omega (arith, within))
any_at test (x ∷ xs) zero d within pass = rw pass refl
any_at test (x ∷ xs) (suc k) d within pass = by (test x) (any_at test xs k d (omega (arith, within)) pass)
  where
    by : (b : Bool) → list_any test xs ≡ true → (b || list_any test xs) ≡ true
    by true e = refl
    by false e = e

any_none : {X : Type 0} (test : X → Bool) (xs : List X) → All (λ x. test x ≡ false) xs → list_any test xs ≡ false
any_none test [] fail = refl
any_none test (x ∷ xs) fail =
    let first : test x ≡ false = fail 0 x (omega arith) in
    rw first (any_none test xs (λ j d a. fail (suc j) d (omega arith)))

same_number : (x y : ℕ) → nat_cmp x y ≡ Equal → x ≡ y
same_number x y e = grind (arith, nat_tests)

not_before : (x y : ℕ) → nat_cmp x y ≡ Less → x ≢ y
not_before x y e same = grind (arith, nat_tests)

not_after : (x y : ℕ) → nat_cmp x y ≡ Greater → x ≢ y
not_after x y e same = grind (arith, nat_tests)

not_above : (x y : ℕ) → x ≤ y → is_lt (nat_cmp y x) ≡ false
not_above x y le = grind (arith, nat_tests)

module _ {X : Type 0} (uid : X → ℕ) where
  in_order : (xs : List X) → IsNonDecreasingBy uid xs → IsSortedBy (λ a b. is_lt (nat_cmp (uid a) (uid b))) xs
  in_order xs rising = λ k d low below. not_above (uid (get_or xs k d)) (uid (get_or xs (k + 1) d)) (rising k (k + 1) d (omega arith) below)

  -- what a search answers says whether one is there
  pub is_there : (xs : List X) (u b : ℕ) (r : Result ℕ ℕ) → b ≡ u → IsNonDecreasingBy uid xs → IsBinarySearchResult (λ x. nat_cmp (uid x) b) xs r → (d : X) → IsSearchInRange r (length xs)
      → is_ok r ≡ list_any (λ x. uid x == u) xs
  is_there xs u b (Ok k) same rising found d within = sym (any_at (λ x. uid x == u) xs k d within (eq-eqb _ u (same_number _ b (found d) ∙ same)))
  is_there xs u b (Err i) same rising found d within =
      let parts = found (searchable_from_sorted nat_cmp_total uid xs b (in_order xs rising)) in
      sym (any_none (λ x. uid x == u) xs (λ k e below. ne_eqb _ u (λ is. ⊎_elim
      (λ before. not_before _ b (parts.0 k e (omega arith) before) (is ∙ sym same))
      (λ following. not_after _ b (parts.1 k e following below) (is ∙ sym same))
      (cases_lt k i))))
