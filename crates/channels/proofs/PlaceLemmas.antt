-- Places that are collected one after another are each place once.
use Rattle.std.proofs.Common.{◌≡◌, ℕ, ◌+◌, ◌<◌, ◌==◌, not, ◌&&◌, ◌||◌, Bool, true, false, cond, List, [], ◌∷◌, ◌++◌, get_or, take, length, refl, ap, sym, ◌∙◌, append_assoc, append-nil, arith, zero, suc, inl, inr}
use Rattle.std.proofs.lemmas.List.{take_more}
use Rattle.std.proofs.lemmas.List.Folds.{list_any-append}
use Rattle.std.proofs.lemmas.Bool.Decides.{eqb_tells}
use Rattle.std.proofs.lemmas.Bool.{eq-eqb, ne_eqb}
use Rattle.std.proofs.lemmas.Grind.{flat_map-append}
use Rattle.std.specs.List.{filter, flat_map, list_any, range_with_len}
use Rattle.channels.specs.Chosen.{each_once}
use Rattle.channels.specs.Places.{with_place, with_places}

pub with_places-append : (places xs ys : List ℕ) → with_places places (xs ++ ys) ≡ with_places (with_places places xs) ys
with_places-append places [] ys = refl
with_places-append places (x ∷ xs) ys = with_places-append (with_place places x) xs ys

-- a place more
pub with_places-more : (places ps : List ℕ) (i d : ℕ) → i < length ps → with_places places (take (i + 1) ps) ≡ with_place (with_places places (take i ps)) (get_or ps i d)
with_places-more places ps i d h =
    ap (with_places places) (take_more ps i d h) ∙ with_places-append places (take i ps) (get_or ps i d ∷ [])

-- the places of an item more
pub with_places-flat_map-more : {X : Type 0} (f : X → List ℕ) (places : List ℕ) (xs : List X) (i : ℕ) (d : X) → i < length xs
    → with_places places (flat_map f (take (i + 1) xs)) ≡ with_places (with_places places (flat_map f (take i xs))) (f (get_or xs i d))
with_places-flat_map-more f places xs i d h =
    let t = take_more xs i d h in
    let m = flat_map-append f (take i xs) (get_or xs i d ∷ []) in
    let n = append-nil (f (get_or xs i d)) in
    ap (λ ys. with_places places (flat_map f ys)) t ∙ ap (with_places places) m ∙ ap (λ ys. with_places places (flat_map f (take i xs) ++ ys)) n
    ∙ with_places-append places (flat_map f (take i xs)) (f (get_or xs i d))

filter-same : (f g : ℕ → Bool) → ((x : ℕ) → f x ≡ g x) → (xs : List ℕ) → filter f xs ≡ filter g xs
filter-same f g same [] = refl
filter-same f g same (x ∷ xs) =
    ap (λ b. cond b (x ∷ filter f xs) (filter f xs)) (same x) ∙ ap (λ ys. cond (g x) (x ∷ ys) ys) (filter-same f g same xs)

filter-twice-at : (f g : ℕ → Bool) (x : ℕ) (xs : List ℕ) → (b : Bool) → g x ≡ b → filter f (cond b (x ∷ filter g xs) (filter g xs)) ≡ cond (b && f x) (x ∷ filter f (filter g xs)) (filter f (filter g xs))
filter-twice-at f g x xs true e = refl
filter-twice-at f g x xs false e = refl

filter-twice : (f g : ℕ → Bool) (xs : List ℕ) → filter f (filter g xs) ≡ filter (λ x. g x && f x) xs
filter-twice f g [] = refl
filter-twice f g (x ∷ xs) =
    filter-twice-at f g x xs (g x) refl ∙ ap (λ ys. cond (g x && f x) (x ∷ ys) ys) (filter-twice f g xs)

-- whether a place is not there yet
abbrev fresh : List ℕ → ℕ → Bool
fresh places q = not (list_any (λ r. r == q) places)

and-false : (b : Bool) → (b && false) ≡ false
and-false true = refl
and-false false = refl

known-same : (places : List ℕ) (p q : ℕ) → q ≡ p → list_any (λ r. r == p) places ≡ true → (not (q == p) && fresh places q) ≡ fresh places q
known-same places p q same e =
    let h : list_any (λ r. r == q) places ≡ true = ap (λ x. list_any (λ r. r == x) places) same ∙ e in
    ap (λ v. not (q == p) && not v) h ∙ and-false (not (q == p)) ∙ sym (ap not h)

known : (places : List ℕ) (p q : ℕ) → list_any (λ r. r == p) places ≡ true → (not (q == p) && fresh places q) ≡ fresh places q
known places p q e =
    elim (eqb_tells q p) [ inl w ↦ known-same places p q w.1 e | inr w ↦ ap (λ v. not v && fresh places q) w.0 ]

neither : (a b : Bool) → (not b && not a) ≡ not (a || (b || false))
neither true true = refl
neither true false = refl
neither false true = refl
neither false false = refl

eqb-swap : (p q : ℕ) → (q == p) ≡ (p == q)
eqb-swap p q = elim (eqb_tells q p) [
  | inl w ↦ w.0 ∙ sym (eq-eqb p q (sym w.1))
  | inr w ↦ w.0 ∙ sym (ne_eqb p q (λ e. w.1 (sym e)))
]

added : (places : List ℕ) (p q : ℕ) → (not (q == p) && fresh places q) ≡ fresh (places ++ p ∷ []) q
added places p q =
    ap (λ v. not v && fresh places q) (eqb-swap p q) ∙ neither (list_any (λ r. r == q) places) (p == q) ∙ ap not (sym (list_any-append (λ r. r == q) places (p ∷ [])))

following-at : (places : List ℕ) (p : ℕ) (ps : List ℕ) (b : Bool) → list_any (λ r. r == p) places ≡ b
    → ((more : List ℕ) → with_places more ps ≡ more ++ filter (fresh more) (each_once ps))
    → with_places (cond b places (places ++ p ∷ [])) ps ≡ places ++ cond (not b) (p ∷ filter (fresh places) (filter (λ q. not (q == p)) (each_once ps))) (filter (fresh places) (filter (λ q. not (q == p)) (each_once ps)))
following-at places p ps true e ih =
    ih places ∙ ap (λ ys. places ++ ys) (sym (filter-twice (fresh places) (λ q. not (q == p)) (each_once ps) ∙ filter-same _ _ (λ q. known places p q e) (each_once ps)))
following-at places p ps false e ih =
    ih (places ++ p ∷ []) ∙ append_assoc places (p ∷ []) _
    ∙ ap (λ ys. places ++ p ∷ ys) (sym (filter-twice (fresh places) (λ q. not (q == p)) (each_once ps) ∙ filter-same _ _ (λ q. added places p q) (each_once ps)))

following : (ps places : List ℕ) → with_places places ps ≡ places ++ filter (fresh places) (each_once ps)
following [] places = sym (append-nil places)
following (p ∷ ps) places =
    let e = following-at places p ps (list_any (λ r. r == p) places) refl (λ more. following ps more) in e

filter-all : (xs : List ℕ) → filter (fresh []) xs ≡ xs
filter-all [] = refl
filter-all (x ∷ xs) = ap (λ ys. x ∷ ys) (filter-all xs)

pub with_places-is_each_once : (ps : List ℕ) → with_places [] ps ≡ each_once ps
with_places-is_each_once ps = following ps [] ∙ filter-all (each_once ps)

-- a number more
range_snoc : (a n : ℕ) → range_with_len a (suc n) ≡ range_with_len a n ++ (a + n) ∷ []
range_snoc a zero =
    let e : a ≡ a + 0 = omega arith in
    ap (λ k. k ∷ []) e
range_snoc a (suc n) =
    let e : a + 1 + n ≡ a + suc n = omega arith in
    ap (λ xs. a ∷ xs) (range_snoc (a + 1) n ∙ ap (λ k. range_with_len (a + 1) n ++ k ∷ []) e)

pub range_more : (n : ℕ) → range_with_len 0 (n + 1) ≡ range_with_len 0 n ++ n ∷ []
range_more n =
    let more : n + 1 ≡ suc n = omega arith in
    let none : 0 + n ≡ n = omega arith in
    ap (range_with_len 0) more ∙ range_snoc 0 n ∙ ap (λ k. range_with_len 0 n ++ k ∷ []) none

pub ruleset place_steps = (with_places-more, with_places-flat_map-more, with_places-is_each_once)
