-- Lists that rise by a key: the last element has the greatest, and one above it may follow.
use Rattle.std.proofs.Common.{◌≡◌, ℕ, suc, ◌-◌, ◌<◌, ◌≤◌, true, List, [], ◌∷◌, ◌++◌, length, map, get_or, sym, ap, ◌∙◌, inl, inr, arith}
use Rattle.std.specs.Prelude.{All, AllPairs, nat_lt}
use Rattle.std.specs.List.{list_all}
use Rattle.std.proofs.lemmas.Bool.{cases_Bool, cases_lt, ltb-true, lt-ltb}
use Rattle.std.proofs.lemmas.List.{get_or_default}
use Rattle.std.proofs.lemmas.List.Elements.{All-map}
use Rattle.std.proofs.lemmas.List.Folds.{list_all_at}
use Rattle.std.proofs.lemmas.List.Kept.{AllPairs-cons}
use Rattle.std.proofs.lemmas.List.Quantifiers.{all_pairs_push}
use Rattle.std.proofs.lemmas.List.Sums.{AllPass-from_list_all, list_all-from_AllPass}

-- each element is at most the last
at_most_last : {X : Type 0} (key : X → ℕ) (xs : List X) (l : X) → AllPairs (λ a b. key a < key b) xs → l ≡ get_or xs (length xs - 1) l → (k : ℕ) (d : X) → k < length xs → key (get_or xs k d) ≤ key l
at_most_last key xs l rising e k d h =
    let here : get_or xs k d ≡ get_or xs k l = get_or_default xs k d l h in
    elim (cases_lt k (length xs - 1)) [
      | inl before ↦ let less : key (get_or xs k l) < key (get_or xs (length xs - 1) l) = rising k (length xs - 1) l before (omega arith) in
          let a : key (get_or xs k d) ≡ key (get_or xs k l) = ap key here in
          let b : key l ≡ key (get_or xs (length xs - 1) l) = ap key e in
          omega (arith, less, a, b)
      | inr at_end ↦ let same : k ≡ length xs - 1 = omega arith in
          let a : key (get_or xs k d) ≡ key l = ap key (here ∙ ap (λ i. get_or xs i l) same ∙ sym e) in
          omega (arith, a)
    ]

-- an element is above all exactly if it is above the last
pub above_last : {X : Type 0} (key : X → ℕ) (xs : List X) (l : X) (u : ℕ) → AllPairs (λ a b. key a < key b) xs → 0 < length xs → l ≡ get_or xs (length xs - 1) l → nat_lt (key l) u ≡ list_all (λ x. nat_lt (key x) u) xs
above_last key xs l u rising some e = elim (cases_Bool (nat_lt (key l) u)) [
  | inl below ↦ below ∙ sym (list_all-from_AllPass (λ x. nat_lt (key x) u) xs (λ k d h.
      let m : key (get_or xs k d) ≤ key l = at_most_last key xs l rising e k d h in
      let n : key l < u = ltb-true (key l) u below in
      lt-ltb (key (get_or xs k d)) u (omega arith)))
  | inr above ↦ above ∙ sym (list_all_at (λ x. nat_lt (key x) u) xs (length xs - 1) l (omega arith) (ap (λ x. nat_lt (key x) u) (sym e) ∙ above))
]

pub rising-push : {X : Type 0} (key : X → ℕ) (xs : List X) (y : X) → AllPairs (λ a b. key a < key b) xs → list_all (λ x. nat_lt (key x) (key y)) xs ≡ true → AllPairs (λ a b. key a < key b) (xs ++ y ∷ [])
rising-push key xs y rising h =
    all_pairs_push (λ a b. key a < key b) xs y rising (λ k d l. ltb-true (key (get_or xs k d)) (key y) (AllPass-from_list_all (λ x. nat_lt (key x) (key y)) xs h k d l))

all_later : {X : Type 0} (R : X → X → Type 0) (x : X) (xs : List X) → AllPairs R (x ∷ xs) → All (λ y. R x y) xs
all_later R x xs p k d h = p 0 (suc k) d (omega arith) (omega arith)

-- a list that rises by a key rises by it after a map that keeps the key
pub rising-map : {X Y : Type 0} (key : Y → ℕ) (f : X → Y) (xs : List X) → AllPairs (λ a b. key (f a) < key (f b)) xs → AllPairs (λ a b. key a < key b) (map f xs)
rising-map key f [] p = λ i j d h k. absurd (omega arith)
rising-map key f (x ∷ xs) p =
    AllPairs-cons (λ a b. key a < key b) (f x) (map f xs) (All-map (λ y. key (f x) < key y) f xs (all_later (λ a b. key (f a) < key (f b)) x xs p))
    (rising-map key f xs (λ i j d h k. p (suc i) (suc j) d (omega arith) (omega arith)))
