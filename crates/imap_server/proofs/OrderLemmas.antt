-- A list of names in order is the only one that has its names.
use Rattle.std.proofs.Common.{◌≡◌, ◌<◌, ◌≤◌, ℕ, suc, ◌+◌, Bool, true, false, cond, List, [], ◌∷◌, length, map, refl, sym, ◌∙◌, ap, subst, arith, get_or}
use mathlib.Core.Bool.{true≢false}
use Rattle.std.specs.Prelude.{All, fold, nat_eq, count_by}
use Rattle.std.specs.declared.cmp.Ordering.{Ordering}
use Rattle.std.specs.declared.cmp.Ordering.TheVariants.{Less, Equal, Greater}
use Rattle.std.specs.Ordering.{nat_cmp, is_lt, is_eq, ordering_reverse}
use Rattle.std.specs.Cmp.{IsStrictWeakOrder}
use Rattle.std.specs.Cmp.Lexicographic.{pointwise, slice_cmp}
use Rattle.std.specs.List.Sorted.{IsPermutation, IsSortedByKey}
use Rattle.std.proofs.lemmas.Bool.Decides.{nat_tests}
use Rattle.std.proofs.lemmas.Cmp.{nat_list_cmp_total, same_from_slice_cmp, tied_itself}
use Rattle.std.proofs.lemmas.List.Elements.{All-map, All-nil, All-cons, All-head, All-tail}
use Rattle.std.proofs.lemmas.List.Sorted.{ranks_by, sorted_far, IsPermutation-map, sum_by-IsPermutation}
use Rattle.std.proofs.lemmas.List.Sums.{sum_by-cons}
use Rattle.std.specs.Cmp.Lexicographic.{texts_ties, bytes_decides}
use Rattle.imap_session.specs.NameOrder.{stands_before, put_in, in_order}

-- ---- the order of names is that of std

abbrev below : (a b : List ℕ) → Bool
below a b = is_lt (slice_cmp nat_cmp a b)

below_is : (a b : List ℕ) → below a b ≡ stands_before a b
below_is a b = same_from_slice_cmp nat_cmp is_lt stands_before refl (λ _ _. refl) (λ _ _. refl) (λ x y xs ys o h. grind (arith, nat_tests)) a b (slice_cmp nat_cmp a b) refl

itself_not : (a : List ℕ) → below a a ≡ false
itself_not a = ap is_lt (tied_itself nat_list_cmp_total a)

order : IsStrictWeakOrder below
order = ranks_by nat_list_cmp_total (λ (a : List ℕ). a)

by_order : (a b : List ℕ) (o p : Ordering) → slice_cmp nat_cmp a b ≡ o → p ≡ ordering_reverse o → is_lt o ≡ false → is_lt p ≡ false → a ≡ b
by_order a b Less p e f h k = absurd (true≢false h)
by_order a b Equal p e f h k = (bytes_decides a b).0 (texts_ties a b ∙ ap is_eq e)
by_order a b Greater p e f h k = absurd (true≢false (sym (ap is_lt f) ∙ k))

same : (a b : List ℕ) → below a b ≡ false → below b a ≡ false → a ≡ b
same a b h k = by_order a b (slice_cmp nat_cmp a b) (slice_cmp nat_cmp b a) refl (nat_list_cmp_total.antisymm b a) h k

-- ---- names in order, and how often a name stands among them

abbrev AreInOrder : List (List ℕ) → Type 0
AreInOrder [] = Unit {0}
AreInOrder (n ∷ ns) = All (λ m. below m n ≡ false) ns × AreInOrder ns

abbrev count : List ℕ → List (List ℕ) → ℕ
count n ns = count_by (λ m. pointwise nat_eq m n) ns

count-cons : (n m : List ℕ) (ms : List (List ℕ)) → count n (m ∷ ms) ≡ cond (pointwise nat_eq m n) 1 0 + count n ms
count-cons n m ms = sum_by-cons (λ (x : List ℕ). cond (pointwise nat_eq x n) 1 0) m ms

itself : (n : List ℕ) → pointwise nat_eq n n ≡ true
itself n = (bytes_decides n n).1 refl

counted : (n : List ℕ) (ns : List (List ℕ)) → 0 < count n (n ∷ ns)
counted n ns =
    let one = count-cons n n ns ∙ ap (λ (b : Bool). cond b 1 0 + count n ns) (itself n) in
    omega (arith, one)

-- what is true of each name is true of one that is counted
of_counted : (P : List ℕ → Type 0) (n : List ℕ) (ns : List (List ℕ)) → All P ns → 0 < count n ns → P n
of_counted P n [] all h = absurd (omega arith)
of_counted P n (m ∷ ms) all h =
    by_test (pointwise nat_eq m n) refl (omega (arith, h, count-cons n m ms)) (of_counted P n ms (All-tail P m ms all))
  where
    by_test : (b : Bool) → pointwise nat_eq m n ≡ b → 0 < cond b 1 0 + count n ms → (0 < count n ms → P n) → P n
    by_test true is k later = subst P ((bytes_decides m n).0 is) (All-head P m ms all)
    by_test false is k later = later (omega (arith, k))

-- names in order that are the same as often are the same
same_names : (ms ns : List (List ℕ)) → AreInOrder ms → AreInOrder ns → ((n : List ℕ) → count n ms ≡ count n ns) → ms ≡ ns
same_names [] [] a b h = refl
same_names [] (n ∷ ns) a b h = absurd (let k = counted n ns in omega (arith, k, h n))
same_names (m ∷ ms) [] a b h = absurd (let k = counted m ms in omega (arith, k, h m))
same_names (m ∷ ms) (n ∷ ns) a b h =
    let least : (x : List ℕ) (xs : List (List ℕ)) → All (λ y. below y x ≡ false) xs → All (λ y. below y x ≡ false) (x ∷ xs) = λ x xs all. All-cons (λ y. below y x ≡ false) x xs (itself_not x) all in
    let first : m ≡ n = same m n (of_counted (λ y. below y n ≡ false) m (n ∷ ns) (least n ns b.0) (let k = counted m ms in omega (arith, k, h m)))
    (of_counted (λ y. below y m ≡ false) n (m ∷ ms) (least m ms a.0) (let k = counted n ns in omega (arith, k, h n))) in
    let rest : ms ≡ ns = same_names ms ns a.1 b.1 (λ x.
    let e = sym (count-cons x m ms) ∙ h x ∙ count-cons x n ns ∙ ap (λ (y : List ℕ). cond (pointwise nat_eq y x) 1 0 + count x ns) (sym first) in omega (arith, e)) in
    ap (λ (y : List ℕ). y ∷ ms) first ∙ ap (λ (ys : List (List ℕ)). n ∷ ys) rest

-- ---- names that are put in their places

put_counts : (x n : List ℕ) (ns : List (List ℕ)) → count x (put_in ns n) ≡ cond (pointwise nat_eq n x) 1 0 + count x ns
put_counts x n [] = count-cons x n []
put_counts x n (m ∷ ms) =
    let tail = put_counts x n ms in
    let here = count-cons x m ms in
    elim (stands_before n m) as (λ b. count x (cond b (n ∷ m ∷ ms) (m ∷ put_in ms n)) ≡ cond (pointwise nat_eq n x) 1 0 + count x (m ∷ ms)) [
      | true ↦ count-cons x n (m ∷ ms)
      | false ↦ let there = count-cons x m (put_in ms n) in omega (arith, tail, here, there)
    ]

all_put : (P : List ℕ → Type 0) (n : List ℕ) (ns : List (List ℕ)) → P n → All P ns → All P (put_in ns n)
all_put P n [] h all = All-cons P n [] h all
all_put P n (m ∷ ms) h all =
    elim (stands_before n m) as (λ b. All P (cond b (n ∷ m ∷ ms) (m ∷ put_in ms n))) [
      | true ↦ All-cons P n (m ∷ ms) h all
      | false ↦ All-cons P m (put_in ms n) (All-head P m ms all) (all_put P n ms h (All-tail P m ms all))
    ]

put_in_order : (n : List ℕ) (ns : List (List ℕ)) → AreInOrder ns → AreInOrder (put_in ns n)
put_in_order n [] h = (All-nil (λ m. below m n ≡ false), tt)
put_in_order n (m ∷ ms) h = by_test (stands_before n m) refl (put_in_order n ms h.1)
  where
    by_test : (b : Bool) → stands_before n m ≡ b → AreInOrder (put_in ms n) → AreInOrder (cond b (n ∷ m ∷ ms) (m ∷ put_in ms n))
    by_test true is rest =
        let ahead = order.one_way n m (below_is n m ∙ is) in
        (All-cons (λ x. below x n ≡ false) m ms ahead (λ k d w. order.chain (get_or ms k d) m n (h.0 k d w) ahead), h)
    by_test false is rest = (all_put (λ x. below x m ≡ false) n ms (below_is n m ∙ is) h.0, rest)

each_put : (ns ms : List (List ℕ)) → AreInOrder ms → AreInOrder (fold put_in ms ns)
each_put [] ms h = h
each_put (n ∷ ns) ms h = each_put ns (put_in ms n) (put_in_order n ms h)

each_counts : (x : List ℕ) (ns ms : List (List ℕ)) → count x (fold put_in ms ns) ≡ count x ms + count x ns
each_counts x [] ms = omega arith
each_counts x (n ∷ ns) ms =
    let rest = each_counts x ns (put_in ms n) in
    let put = put_counts x n ms in
    let here = count-cons x n ns in
    omega (arith, rest, put, here)

pub all_in_order : (P : List ℕ → Type 0) (ns ms : List (List ℕ)) → All P ns → All P ms → All P (fold put_in ms ns)
all_in_order P [] ms all put = put
all_in_order P (n ∷ ns) ms all put = all_in_order P ns (put_in ms n) (All-tail P n ns all) (all_put P n ms (All-head P n ns all) put)

-- ---- what std's sort gives

from_sorted : {X : Type 0} (f : X → List ℕ) (xs : List X) → ((i j : ℕ) (d : X) → i ≤ j → j < length xs → below (f (get_or xs j d)) (f (get_or xs i d)) ≡ false) → AreInOrder (map f xs)
from_sorted f [] h = tt
from_sorted f (x ∷ xs) h = (
  All-map (λ n. below n (f x) ≡ false) f xs (λ k d within. h 0 (suc k) d (omega arith) (omega (arith, within))),
  from_sorted f xs (λ i j d e within. h (suc i) (suc j) d (omega (arith, e)) (omega (arith, within))),
)

pub sorted_is : {X : Type 0} (f : X → List ℕ) (xs ys : List X) → IsPermutation xs ys → IsSortedByKey f (slice_cmp nat_cmp) ys → map f ys ≡ in_order (map f xs)
sorted_is f xs ys moved up =
    let order = ranks_by nat_list_cmp_total f in
    let total = λ (x : List ℕ). sum_by-IsPermutation (λ (n : List ℕ). cond (pointwise nat_eq n x) 1 0) (map f xs) (map f ys) (IsPermutation-map f xs ys moved) in
    same_names (map f ys) (in_order (map f xs)) (from_sorted f ys (sorted_far _ order ys up)) (each_put (map f xs) [] tt)
    (λ x. let e = total x in let g = each_counts x (map f xs) [] in omega (arith, e, g))
