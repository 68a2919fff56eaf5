-- What a search by halves finds among names that rise.
use Rattle.std.proofs.Common.{◌≡◌, ℕ, ◌+◌, ◌<◌, ◌≤◌, zero, suc, true, false, ◌||◌, Bool, List, [], ◌∷◌, None, Some, Result, Ok, Err, length, refl, ap, sym, ◌∙◌, arith, subst}
use Rattle.std.specs.Prelude.{slice_index_or, nat_eq, MatchResult}
use Rattle.std.specs.Result.{is_ok}
use Rattle.std.specs.Ordering.{match_ordering, nat_cmp, ordering_index, is_eq}
use Rattle.std.specs.declared.cmp.Ordering.{Ordering}
use Rattle.std.specs.declared.cmp.Ordering.TheVariants.{Less, Equal, Greater}
use Rattle.std.specs.Cmp.Lexicographic.{slice_cmp, pointwise, nat_list_cmp_total, texts_ties}
use Rattle.std.proofs.lemmas.Cmp.{alike_right}
use Rattle.std.specs.List.{AllWithin, HoldsAt}
use Rattle.std.specs.List.Sorted.{IsBinarySearchResult, IsNonDecreasingBy, IsSearchInRange}
use Rattle.channels.specs.Boxes.{IsBelowFirst, Rises, place_from, stands_in}

-- ---- names that rise

below_next : (a n : List ℕ) (ns : List (List ℕ)) → slice_cmp nat_cmp a n ≡ Less → IsBelowFirst n ns → IsBelowFirst a ns
below_next a n [] h k = tt
below_next a n (m ∷ ns) h k = nat_list_cmp_total.trans a n m h k

-- a name that is below the first one is below each
below_each : (a : List ℕ) (ns : List (List ℕ)) → IsBelowFirst a ns → Rises ns → (k : ℕ) (d : List ℕ) → k < length ns
    → slice_cmp nat_cmp a (slice_index_or ns k d) ≡ Less
below_each a [] h r k d l = absurd (omega (arith, l))
below_each a (n ∷ ns) h r zero d l = h
below_each a (n ∷ ns) h r (suc k) d l = below_each a ns (below_next a n ns h r.0) r.1 k d (omega (arith, l))

-- a name below one that is alike
below_alike : (a b name : List ℕ) → slice_cmp nat_cmp b name ≡ Equal → slice_cmp nat_cmp a b ≡ Less → slice_cmp nat_cmp a name ≡ Less
below_alike a b name e h = sym (alike_right nat_list_cmp_total b name a e) ∙ h

at_most_two : (o : Ordering) → ordering_index o ≤ 2
at_most_two Less = omega arith
at_most_two Equal = omega arith
at_most_two Greater = omega arith

index_below : (o : Ordering) (n : ℕ) → o ≡ Less → ordering_index o ≤ n
index_below o n e = subst (λ p. ordering_index p ≤ n) (sym e) (omega arith)

up_by : (a b name : List ℕ) (o : Ordering) → slice_cmp nat_cmp b name ≡ o → slice_cmp nat_cmp a b ≡ Less
    → ordering_index (slice_cmp nat_cmp a name) ≤ ordering_index o
up_by a b name Less e h = index_below (slice_cmp nat_cmp a name) 0 (nat_list_cmp_total.trans a b name h e)
up_by a b name Equal e h = index_below (slice_cmp nat_cmp a name) 1 (below_alike a b name e h)
up_by a b name Greater e h = at_most_two (slice_cmp nat_cmp a name)

-- what each is to a name rises
rise : (name : List ℕ) (ns : List (List ℕ)) → Rises ns → IsNonDecreasingBy (λ n. ordering_index (slice_cmp nat_cmp n name)) ns
rise name [] r i j d le lt = absurd (omega (arith, lt))
rise name (n ∷ ns) r zero zero d le lt = omega arith
rise name (n ∷ ns) r zero (suc j) d le lt =
    up_by n (slice_index_or ns j d) name (slice_cmp nat_cmp (slice_index_or ns j d) name) refl (below_each n ns r.0 r.1 j d (omega (arith, lt)))
rise name (n ∷ ns) r (suc i) zero d le lt = absurd (omega (arith, le))
rise name (n ∷ ns) r (suc i) (suc j) d le lt = rise name ns r.1 i j d (omega (arith, le)) (omega (arith, lt))

-- ---- where a name goes

at_order : (from : ℕ) (name n : List ℕ) (ns : List (List ℕ)) (o : Ordering) → slice_cmp nat_cmp n name ≡ o
    → place_from from name (n ∷ ns) ≡ match_ordering o (place_from (from + 1) name ns) None (Some from)
at_order from name n ns o e = ap (λ p. match_ordering p (place_from (from + 1) name ns) None (Some from)) e

some_same : (a b : ℕ) → a ≡ b → Some a ≡ Some b
some_same a b e = ap (λ (n : ℕ). Some n) e

gap : (from : ℕ) (name : List ℕ) (ns : List (List ℕ)) (i : ℕ) → i ≤ length ns
    → AllWithin (λ n. slice_cmp nat_cmp n name ≡ Less) ns 0 i → AllWithin (λ n. slice_cmp nat_cmp n name ≡ Greater) ns i (length ns)
    → place_from from name ns ≡ Some (from + i)
gap from name [] i l p q = some_same from (from + i) (omega (arith, l))
gap from name (n ∷ ns) zero l p q =
    at_order from name n ns Greater (q 0 n (omega arith) (omega arith)) ∙ some_same from (from + 0) (omega arith)
gap from name (n ∷ ns) (suc i) l p q =
    at_order from name n ns Less (p 0 n (omega arith) (omega arith))
    ∙ gap (from + 1) name ns i (omega (arith, l)) (λ k d a b. p (suc k) d (omega arith) (omega (arith, b))) (λ k d a b. q (suc k) d (omega (arith, a)) (omega (arith, b)))
    ∙ some_same (from + 1 + i) (from + suc i) (omega arith)

there : (from : ℕ) (name : List ℕ) (ns : List (List ℕ)) (i : ℕ) → Rises ns → i < length ns
    → HoldsAt (λ n. slice_cmp nat_cmp n name ≡ Equal) ns i → place_from from name ns ≡ None
there from name [] i r l h = absurd (omega (arith, l))
there from name (n ∷ ns) zero r l h = at_order from name n ns Equal (h n)
there from name (n ∷ ns) (suc i) r l h =
    at_order from name n ns Less (below_alike n (slice_index_or ns i n) name (h n) (below_each n ns r.0 r.1 i n (omega (arith, l))))
    ∙ there (from + 1) name ns i r.1 (omega (arith, l)) h

-- what a search reports of where a name goes
pub placed : (name : List ℕ) (ns : List (List ℕ)) (r : Result ℕ ℕ) → Rises ns → IsSearchInRange r (length ns)
    → IsBinarySearchResult (λ n. slice_cmp nat_cmp n name) ns r
    → MatchResult r (λ i. place_from 0 name ns ≡ None) (λ i. place_from 0 name ns ≡ Some i)
placed name ns (Ok i) r l h = there 0 name ns i r l h
placed name ns (Err i) r l h =
    let parts = h (rise name ns r) in
    gap 0 name ns i l parts.0 parts.1 ∙ some_same (0 + i) i (omega arith)

-- ---- whether a name is there

same_by : (n name : List ℕ) (o : Ordering) → slice_cmp nat_cmp n name ≡ o → pointwise nat_eq n name ≡ is_eq o
same_by n name o e = texts_ties n name ∙ ap is_eq e

or_true : (b : Bool) → (b || true) ≡ true
or_true true = refl
or_true false = refl

in_there : (name : List ℕ) (ns : List (List ℕ)) (i : ℕ) → i < length ns → HoldsAt (λ n. slice_cmp nat_cmp n name ≡ Equal) ns i
    → stands_in ns name ≡ true
in_there name [] i l h = absurd (omega (arith, l))
in_there name (n ∷ ns) zero l h = ap (λ b. b || stands_in ns name) (same_by n name Equal (h n))
in_there name (n ∷ ns) (suc i) l h =
    ap (λ b. pointwise nat_eq n name || b) (in_there name ns i (omega (arith, l)) h) ∙ or_true (pointwise nat_eq n name)

in_gap : (name : List ℕ) (ns : List (List ℕ)) (i : ℕ) → AllWithin (λ n. slice_cmp nat_cmp n name ≡ Less) ns 0 i
    → AllWithin (λ n. slice_cmp nat_cmp n name ≡ Greater) ns i (length ns) → stands_in ns name ≡ false
in_gap name [] i p q = refl
in_gap name (n ∷ ns) zero p q =
    ap (λ b. b || stands_in ns name) (same_by n name Greater (q 0 n (omega arith) (omega arith)))
    ∙ in_gap name ns 0 (λ k d a b. absurd (omega (arith, b))) (λ k d a b. q (suc k) d (omega arith) (omega (arith, b)))
in_gap name (n ∷ ns) (suc i) p q =
    ap (λ b. b || stands_in ns name) (same_by n name Less (p 0 n (omega arith) (omega arith)))
    ∙ in_gap name ns i (λ k d a b. p (suc k) d (omega arith) (omega (arith, b))) (λ k d a b. q (suc k) d (omega (arith, a)) (omega (arith, b)))

-- what a search reports of whether a name is there
pub standing : (name : List ℕ) (ns : List (List ℕ)) (r : Result ℕ ℕ) → Rises ns → IsSearchInRange r (length ns)
    → IsBinarySearchResult (λ n. slice_cmp nat_cmp n name) ns r → stands_in ns name ≡ is_ok r
standing name ns (Ok i) r l h = in_there name ns i l h
standing name ns (Err i) r l h = let parts = h (rise name ns r) in in_gap name ns i parts.0 parts.1
