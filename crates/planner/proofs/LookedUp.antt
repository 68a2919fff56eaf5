-- What look-ups by halving find, in lists that rise by what is looked up.
use Rattle.std.proofs.Common.{◌≡◌, ℕ, zero, suc, ◌<◌, ◌≤◌, Bool, true, false, ltb, List, [], ◌∷◌, Some, None, length, get_or, take, drop, refl, sym, ap, ◌∙◌, subst, inl, inr, arith}
use Rattle.std.specs.Prelude.{All, Contains, find, filter, ◌==◌}
use Rattle.std.specs.List.{AllWithin}
use Rattle.std.specs.List.Sorted.{IsNonDecreasingBy}
use borrow.Author.Tests.{ltb-true, ltb-false}
use Rattle.std.proofs.lemmas.Bool.{ne_eqb, cases_lt, eq-eqb, eqb-true}
use Rattle.std.proofs.lemmas.List.{get_or_read}
use Rattle.std.proofs.lemmas.List.Elements.{Contains-get_or}
use Rattle.mailcore.specs.declared.listing.Item.{Item}
use Rattle.mailcore.specs.Listed.{IsRising}
use Rattle.rules.proofs.Walks.{find_only, only_one}

-- ---- what rises

-- messages by their UIDs
pub items_rise : (is : List Item) → IsRising is → IsNonDecreasingBy (λ (i : Item). i.uid) is
items_rise is rising i j d order within = elim (cases_lt i j) [
  | inl less ↦ let above = rising i j d less within in omega arith
  | inr at_least ↦ let alike : (get_or is i d).uid ≡ (get_or is j d).uid = let same : i ≡ j = omega arith in ap (λ (k : ℕ). (get_or is k d).uid) same in omega arith
]

-- ---- places

-- what fails in front is skipped
pub filter_after : {X : Type 0} (test : X → Bool) (xs : List X) (k : ℕ) → k ≤ length xs → AllWithin (λ x. test x ≡ false) xs 0 k → filter test xs ≡ filter test (drop k xs)
filter_after test xs zero within fail = refl
filter_after test [] (suc k) within fail = refl
filter_after test (x ∷ xs) (suc k) within fail =
    let first : test x ≡ false = fail 0 x (omega arith) (omega arith) in
    rw first (filter_after test xs k (omega arith) (λ j d a b. fail (suc j) d (omega arith) (omega arith)))

pub find_none_of : {X : Type 0} (test : X → Bool) (xs : List X) → All (λ x. test x ≡ false) xs → find test xs ≡ None
find_none_of test [] fail = refl
find_none_of test (x ∷ xs) fail =
    let first : test x ≡ false = fail 0 x (omega arith) in
    rw first (find_none_of test xs (λ j d a. fail (suc j) d (omega arith)))

pub filter_none_of : {X : Type 0} (test : X → Bool) (xs : List X) → All (λ x. test x ≡ false) xs → filter test xs ≡ []
filter_none_of test [] fail = refl
filter_none_of test (x ∷ xs) fail =
    let first : test x ≡ false = fail 0 x (omega arith) in
    rw first (filter_none_of test xs (λ j d a. fail (suc j) d (omega arith)))

-- what passes stands in front
pub filter_front : {X : Type 0} (test : X → Bool) (xs : List X) (k : ℕ) → k ≤ length xs → AllWithin (λ x. test x ≡ true) xs 0 k → AllWithin (λ x. test x ≡ false) xs k (length xs) → filter test xs ≡ take k xs
filter_front test xs zero within pass fail = filter_none_of test xs (λ j d a. fail j d (omega arith) a)
filter_front test [] (suc k) within pass fail = refl
filter_front test (x ∷ xs) (suc k) within pass fail =
    let first : test x ≡ true = pass 0 x (omega arith) (omega arith) in
    rw first (ap (λ ys. x ∷ ys) (filter_front test xs k (omega arith) (λ j d a b. pass (suc j) d (omega arith) (omega arith)) (λ j d a b. fail (suc j) d (omega arith) (omega arith))))

-- ---- messages

-- the message at a place with the UID is the one
pub item_at_place : (is : List Item) (k u : ℕ) (x : Item) → IsRising is → k < length is → x ≡ get_or is k x → x.uid ≡ u → find (λ i. i.uid == u) is ≡ Some x
item_at_place is k u x rising within here same =
    let c : Contains is x = subst (λ y. Contains is y) (sym here) (Contains-get_or is k x within) in
    find_only (λ (i : Item). i.uid == u) is x c (eq-eqb x.uid u same)
    (λ y d e. only_one (λ (a b : Item). a.uid < b.uid) (λ a. a.uid) x (λ a b l v w. omega arith) is rising c y d (eqb-true y.uid u e ∙ sym same))

-- there is none where all before the place are below, and none from there on is
pub no_item_at_place : (is : List Item) (k u : ℕ) → IsRising is → AllWithin (λ (i : Item). ltb i.uid u ≡ true) is 0 k → (k < length is → (d : Item) → u < (get_or is k d).uid) → find (λ i. i.uid == u) is ≡ None
no_item_at_place is k u rising below above = find_none_of (λ (i : Item). i.uid == u) is (λ j d within. ne_eqb (get_or is j d).uid u (elim (cases_lt j k) [
  | inl less ↦ λ e. let l : (get_or is j d).uid < u = ltb-true (get_or is j d).uid u (below j d (omega arith) less) in omega arith
  | inr at_least ↦ λ e.
      let first : u < (get_or is k d).uid = above (omega arith) d in
      let order : (get_or is k d).uid ≤ (get_or is j d).uid = items_rise is rising k j d at_least within in
      omega arith
]))

pub no_item_here : (is : List Item) (k u : ℕ) (x : Item) → IsRising is → AllWithin (λ (i : Item). ltb i.uid u ≡ true) is 0 k → AllWithin (λ (i : Item). ltb i.uid u ≡ false) is k (length is)
    → x ≡ get_or is k x → ¬ (x.uid ≡ u) → find (λ i. i.uid == u) is ≡ None
no_item_here is k u x rising below rest here other = no_item_at_place is k u rising below (λ within d.
    let same : x ≡ get_or is k d = get_or_read is k x within here d in
    let uids : x.uid ≡ (get_or is k d).uid = ap (λ (i : Item). i.uid) same in
    let up : u ≤ (get_or is k d).uid = ltb-false (get_or is k d).uid u (rest k d (omega arith) within) in
    let apart : ¬ ((get_or is k d).uid ≡ u) = λ e. other (uids ∙ e) in
    omega arith)
