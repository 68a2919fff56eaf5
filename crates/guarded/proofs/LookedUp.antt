-- What look-ups by halving find, in lists that rise by UIDs.
use Rattle.std.proofs.Common.{◌≡◌, ◌≢◌, ℕ, zero, suc, ◌+◌, ◌<◌, ◌≤◌, ◌∙◌, Bool, true, false, ltb, List, [], ◌∷◌, None, Some, length, get_or, refl, sym, ap, inl, inr, arith}
use Rattle.std.specs.Prelude.{All, AllPairs, find, ◌==◌}
use Rattle.std.specs.List.{AllWithin}
use Rattle.std.specs.List.Sorted.{IsNonDecreasingBy}
use Rattle.std.proofs.lemmas.Bool.{ne_eqb, cases_lt, eq-eqb}
use Rattle.std.proofs.lemmas.List.{get_or_read}
use borrow.Author.Tests.{ltb-true, ltb-false}

-- ---- the first one that passes

pub find_none_of : {X : Type 0} (test : X → Bool) (xs : List X) → All (λ x. test x ≡ false) xs → find test xs ≡ None
find_none_of test [] fail = refl
find_none_of test (x ∷ xs) fail =
    let first : test x ≡ false = fail 0 x (omega arith) in
    rw first (find_none_of test xs (λ j d a. fail (suc j) d (omega arith)))

pub find_at : {X : Type 0} (test : X → Bool) (xs : List X) (k : ℕ) (x : X) → k < length xs → AllWithin (λ x. test x ≡ false) xs 0 k → x ≡ get_or xs k x → test x ≡ true → find test xs ≡ Some x
find_at test [] k x within fail here pass = absurd (omega (arith, within))
find_at test (y ∷ ys) zero x within fail here pass =
    let is : test y ≡ true = ap test (sym here) ∙ pass in
    rw is (ap Some (sym here))
find_at test (y ∷ ys) (suc k) x within fail here pass =
    let first : test y ≡ false = fail 0 y (omega arith) (omega arith) in
    rw first (find_at test ys k x (omega (arith, within)) (λ j d a b. fail (suc j) d (omega arith) (omega arith)) here pass)

module _ {X : Type 0} (uid : X → ℕ) where
  -- the one at a place, where all before it are below
  pub found_at_place : (xs : List X) (k u : ℕ) (x : X) → k < length xs → AllWithin (λ x. ltb (uid x) u ≡ true) xs 0 k → x ≡ get_or xs k x → uid x ≡ u → find (λ x. uid x == u) xs ≡ Some x
  found_at_place xs k u x within below here same =
      find_at (λ x. uid x == u) xs k x within (λ j d a b. ne_eqb (uid (get_or xs j d)) u (λ e. let l : uid (get_or xs j d) < u = ltb-true _ u (below j d a b) in omega arith)) here (eq-eqb (uid x) u same)

  -- there is none where all before the place are below, and none from there on is
  pub none_at_place : (xs : List X) (k u : ℕ) → IsNonDecreasingBy uid xs → AllWithin (λ x. ltb (uid x) u ≡ true) xs 0 k → (k < length xs → (d : X) → u < uid (get_or xs k d)) → All (λ x. uid x ≢ u) xs
  none_at_place xs k u rising below above = λ j d within. elim (cases_lt j k) [
    | inl less ↦ λ e. let l : uid (get_or xs j d) < u = ltb-true _ u (below j d (omega arith) less) in omega arith
    | inr at_least ↦ λ e.
        let first : u < uid (get_or xs k d) = above (omega arith) d in
        let order : uid (get_or xs k d) ≤ uid (get_or xs j d) = rising k j d at_least within in
        omega arith
  ]

  -- so there is none where the one at the place is another
  pub none_here : (xs : List X) (k u : ℕ) (x : X) → IsNonDecreasingBy uid xs → AllWithin (λ x. ltb (uid x) u ≡ true) xs 0 k → AllWithin (λ x. ltb (uid x) u ≡ false) xs k (length xs)
      → x ≡ get_or xs k x → (uid x ≢ u) → All (λ x. uid x ≢ u) xs
  none_here xs k u x rising below rest here other = none_at_place xs k u rising below (λ within d.
      let same : x ≡ get_or xs k d = get_or_read xs k x within here d in
      let uids : uid x ≡ uid (get_or xs k d) = ap uid same in
      let up : u ≤ uid (get_or xs k d) = ltb-false _ u (rest k d (omega arith) within) in
      let apart : uid (get_or xs k d) ≢ u = λ e. other (uids ∙ e) in
      omega arith)

  pub find_none : (xs : List X) (u : ℕ) → All (λ x. uid x ≢ u) xs → find (λ x. uid x == u) xs ≡ None
  find_none xs u none = find_none_of (λ x. uid x == u) xs (λ j d within. ne_eqb (uid (get_or xs j d)) u (none j d within))

-- what rises strictly rises
pub rises : {X : Type 0} (uid : X → ℕ) (xs : List X) → AllPairs (λ a b. uid a < uid b) xs → IsNonDecreasingBy uid xs
rises uid xs rising i j d order within = elim (cases_lt i j) [
  | inl less ↦ let above = rising i j d less within in omega arith
  | inr at_least ↦ let same : i ≡ j = omega arith in let alike : uid (get_or xs i d) ≡ uid (get_or xs j d) = ap (λ (k : ℕ). uid (get_or xs k d)) same in omega arith
]
