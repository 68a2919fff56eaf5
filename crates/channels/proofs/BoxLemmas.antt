-- Names that are put among names that rise.
use Rattle.std.proofs.Common.{◌≡◌, ℕ, ◌+◌, ◌-◌, ◌<◌, ◌≤◌, Bool, true, false, cond, List, [], ◌∷◌, ◌++◌, Option, None, Some, get_or, take, length, refl, ap, sym, ◌∙◌, arith, subst, suc}
use Rattle.std.proofs.lemmas.List.{take_more}
use Rattle.std.proofs.lemmas.List.Elements.{filter-append, filter_more}
use Rattle.std.specs.Ordering.{match_ordering, nat_cmp, ordering_reverse}
use Rattle.std.specs.declared.cmp.Ordering.{Ordering}
use Rattle.std.specs.declared.cmp.Ordering.TheVariants.{Less, Equal, Greater}
use Rattle.std.specs.Cmp.Lexicographic.{slice_cmp, nat_list_cmp_total}
use Rattle.std.specs.List.{filter, insert}
use Rattle.channels.specs.Boxes.{IsBelowFirst, Rises, place_from, put_name, put_names}

pub put_names-append : (names xs ys : List (List ℕ)) → put_names names (xs ++ ys) ≡ put_names (put_names names xs) ys
put_names-append names [] ys = refl
put_names-append names (x ∷ xs) ys = put_names-append (put_name x names) xs ys

-- the names of both lists, one list after the other
pub put_names-both : (is_chosen : List ℕ → Bool) (names far near : List (List ℕ))
    → put_names (put_names names (filter is_chosen far)) (filter is_chosen near) ≡ put_names names (filter is_chosen (far ++ near))
put_names-both is_chosen names far near =
    sym (put_names-append names (filter is_chosen far) (filter is_chosen near)) ∙ ap (put_names names) (sym (filter-append is_chosen far near))

if_chosen : (b : Bool) (boxes : List (List ℕ)) (name : List ℕ) → put_names boxes (cond b (name ∷ []) []) ≡ cond b (put_name name boxes) boxes
if_chosen true boxes name = refl
if_chosen false boxes name = refl

-- what a place that was found says: the name is there, or goes there
pub record IsPlace (from : ℕ) (name : List ℕ) (names : List (List ℕ)) (place : ℕ) : Type 0 where
  pub low : from ≤ place
  pub high : place ≤ from + length names
  pub puts : insert names (place - from) name ≡ put_name name names

abbrev pub PutsAt : (from : ℕ) (name : List ℕ) (names : List (List ℕ)) (found : Option ℕ) → Type 0
PutsAt from name names None = put_name name names ≡ names
PutsAt from name names (Some place) = IsPlace from name names place

place_from-at : (from : ℕ) (name n : List ℕ) (ns : List (List ℕ)) (found : Option ℕ) → PutsAt (from + 1) name ns found → slice_cmp nat_cmp n name ≡ Less → PutsAt from name (n ∷ ns) found
place_from-at from name n ns None h e =
    ap (λ order. match_ordering order (n ∷ put_name name ns) (n ∷ ns) (name ∷ n ∷ ns)) e ∙ ap (λ ys. n ∷ ys) h
place_from-at from name n ns (Some place) h e =
    let low = h.low in
    let high = h.high in
    let step : place - from ≡ suc (place - (from + 1)) = omega arith in
    record {
      low = omega arith;
      high = omega arith;
      puts = ap (λ k. insert (n ∷ ns) k name) step ∙ ap (λ ys. n ∷ ys) h.puts ∙ sym (ap (λ order. match_ordering order (n ∷ put_name name ns) (n ∷ ns) (name ∷ n ∷ ns)) e);
    }

by_cmp : (from : ℕ) (name n : List ℕ) (ns : List (List ℕ)) (order : Ordering) → slice_cmp nat_cmp n name ≡ order → PutsAt (from + 1) name ns (place_from (from + 1) name ns)
    → PutsAt from name (n ∷ ns) (match_ordering order (place_from (from + 1) name ns) None (Some from))
by_cmp from name n ns Less e h = place_from-at from name n ns (place_from (from + 1) name ns) h e
by_cmp from name n ns Equal e h = ap (λ order. match_ordering order (n ∷ put_name name ns) (n ∷ ns) (name ∷ n ∷ ns)) e
by_cmp from name n ns Greater e h =
    let none : from - from ≡ 0 = omega arith in
    record {
      low = omega arith;
      high = omega arith;
      puts = ap (λ k. insert (n ∷ ns) k name) none ∙ sym (ap (λ order. match_ordering order (n ∷ put_name name ns) (n ∷ ns) (name ∷ n ∷ ns)) e);
    }

-- what the place that is found says
place_from-PutsAt : (from : ℕ) (name : List ℕ) (names : List (List ℕ)) → PutsAt from name names (place_from from name names)
place_from-PutsAt from name [] =
    let none : from - from ≡ 0 = omega arith in
    record { low = omega arith; high = omega arith; puts = ap (λ k. insert [] k name) none }
place_from-PutsAt from name (n ∷ ns) = by_cmp from name n ns (slice_cmp nat_cmp n name) refl (place_from-PutsAt (from + 1) name ns)

pub stays_if_there : (name : List ℕ) (names : List (List ℕ)) → place_from 0 name names ≡ None → names ≡ put_name name names
stays_if_there name names e = sym (subst (PutsAt 0 name names) e (place_from-PutsAt 0 name names))

pub goes_there : (name : List ℕ) (names : List (List ℕ)) (place : ℕ) → place_from 0 name names ≡ Some place → insert names place name ≡ put_name name names
goes_there name names place e =
    let at = subst (PutsAt 0 name names) e (place_from-PutsAt 0 name names) in
    let all : place ≡ place - 0 = omega arith in
    ap (λ k. insert names k name) all ∙ at.puts

pub put_names-next : (boxes names : List (List ℕ)) (i : ℕ) (d : List ℕ) → i < length names
    → put_names boxes (take (i + 1) names) ≡ put_name (get_or names i d) (put_names boxes (take i names))
put_names-next boxes names i d h =
    ap (put_names boxes) (take_more names i d h) ∙ put_names-append boxes (take i names) (get_or names i d ∷ [])

-- a name more
pub put_names-more : (is_chosen : List ℕ → Bool) (boxes names : List (List ℕ)) (i : ℕ) (d : List ℕ) → i < length names
    → put_names boxes (filter is_chosen (take (i + 1) names)) ≡ cond (is_chosen (get_or names i d)) (put_name (get_or names i d) (put_names boxes (filter is_chosen (take i names)))) (put_names boxes (filter is_chosen (take i names)))
put_names-more is_chosen boxes names i d h =
    ap (put_names boxes) (filter_more is_chosen names i d h) ∙ put_names-append boxes (filter is_chosen (take i names)) _
    ∙ if_chosen (is_chosen (get_or names i d)) (put_names boxes (filter is_chosen (take i names))) (get_or names i d)

pub put_names-chosen : (is_chosen : List ℕ → Bool) (boxes names : List (List ℕ)) (i : ℕ) (d : List ℕ) → i < length names → is_chosen (get_or names i d) ≡ true
    → put_names boxes (filter is_chosen (take (i + 1) names)) ≡ put_name (get_or names i d) (put_names boxes (filter is_chosen (take i names)))
put_names-chosen is_chosen boxes names i d h e =
    put_names-more is_chosen boxes names i d h
    ∙ ap (λ b. cond b (put_name (get_or names i d) (put_names boxes (filter is_chosen (take i names)))) (put_names boxes (filter is_chosen (take i names)))) e

pub put_names-passed : (is_chosen : List ℕ → Bool) (boxes names : List (List ℕ)) (i : ℕ) (d : List ℕ) → i < length names → is_chosen (get_or names i d) ≡ false
    → put_names boxes (filter is_chosen (take (i + 1) names)) ≡ put_names boxes (filter is_chosen (take i names))
put_names-passed is_chosen boxes names i d h e =
    put_names-more is_chosen boxes names i d h
    ∙ ap (λ b. cond b (put_name (get_or names i d) (put_names boxes (filter is_chosen (take i names)))) (put_names boxes (filter is_chosen (take i names)))) e

-- ---- names that rise still rise after a put

below_first-at : (a name n : List ℕ) (ns : List (List ℕ)) (order : Ordering) → slice_cmp nat_cmp a n ≡ Less → slice_cmp nat_cmp a name ≡ Less
    → IsBelowFirst a (match_ordering order (n ∷ put_name name ns) (n ∷ ns) (name ∷ n ∷ ns))
below_first-at a name n ns Less h k = h
below_first-at a name n ns Equal h k = h
below_first-at a name n ns Greater h k = k

below_first-put : (a name : List ℕ) (ns : List (List ℕ)) → IsBelowFirst a ns → slice_cmp nat_cmp a name ≡ Less → IsBelowFirst a (put_name name ns)
below_first-put a name [] h k = k
below_first-put a name (n ∷ ns) h k = below_first-at a name n ns (slice_cmp nat_cmp n name) h k

rises-at : (name n : List ℕ) (ns : List (List ℕ)) (order : Ordering) → slice_cmp nat_cmp n name ≡ order → IsBelowFirst n ns → Rises ns → Rises (put_name name ns)
    → Rises (match_ordering order (n ∷ put_name name ns) (n ∷ ns) (name ∷ n ∷ ns))
rises-at name n ns Less e b r p = (below_first-put n name ns b e, p)
rises-at name n ns Equal e b r p = (b, r)
rises-at name n ns Greater e b r p =
    let turned : slice_cmp nat_cmp name n ≡ Less = nat_list_cmp_total.antisymm name n ∙ ap ordering_reverse e in
    (turned, (b, r))

pub put_name-rises : (name : List ℕ) (names : List (List ℕ)) → Rises names → Rises (put_name name names)
put_name-rises name [] h = (tt, tt)
put_name-rises name (n ∷ ns) h = rises-at name n ns (slice_cmp nat_cmp n name) refl h.0 h.1 (put_name-rises name ns h.1)

pub ruleset put_steps = (stays_if_there, goes_there, put_name-rises)
