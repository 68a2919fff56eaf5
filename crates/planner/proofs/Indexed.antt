-- An index of the entries.
use Rattle.std.proofs.Common.{◌≡◌, ℕ, zero, suc, ◌<◌, ◌+◌, Bool, true, false, ◌||◌, None, List, [], ◌∷◌, length, get_or, refl, sym, ap, ◌∙◌, subst, inl, inr, arith}
use Rattle.std.specs.Prelude.{All, ◌==◌}
use Rattle.std.specs.List.{list_any}
use Rattle.std.specs.List.Sorted.{IsNonDecreasingBy, IsPermutation}
use Rattle.std.proofs.lemmas.Bool.{eq-eqb, cases_order}
use Rattle.std.proofs.lemmas.List.Sorted.{list_any-IsPermutation, All-permutation}
use Rattle.mailcore.specs.declared.side.Side.{Side}
use Rattle.mailcore.specs.declared.side.Side.TheVariants.{Far}
use Rattle.rules.specs.declared.entry.Entry.{Entry}
use Rattle.rules.specs.Entries.{ArePairs, EntryBefore, uid_of}
use Rattle.planner.specs.declared.places.EntryPlace.{EntryPlace}
use Rattle.planner.specs.Index.{places_from, IsPlaceOf, IsIndex}

pub places_length : (k : ℕ) (side : Side) (es : List Entry) → length (places_from k side es) ≡ length es
places_length k side [] = refl
places_length k side (e ∷ es) = ap suc (places_length (k + 1) side es)

pub places_get : (k : ℕ) (side : Side) (es : List Entry) (j : ℕ) (p : EntryPlace) (d : Entry) → j < length es → get_or (places_from k side es) j p ≡ record { uid = uid_of side (get_or es j d); at = k + j }
places_get k side [] j p d within = absurd (omega arith)
places_get k side (e ∷ es) zero p d within = ap (λ (n : ℕ). record { uid = uid_of side e; at = n }) (let h : k ≡ k + 0 = omega arith in h)
places_get k side (e ∷ es) (suc j) p d within =
    places_get (k + 1) side es j p d (omega arith)
    ∙ ap (λ (n : ℕ). record { uid = uid_of side (get_or es j d); at = n }) (let h : k + 1 + j ≡ k + suc j = omega arith in h)

-- entries rise by their far UIDs
pub entries_rise : (es : List Entry) → ArePairs es → IsNonDecreasingBy (λ e. uid_of Far e) es
entries_rise es pairs i j d order within = elim (cases_order i j) [
  | inl same ↦ let alike : uid_of Far (get_or es i d) ≡ uid_of Far (get_or es j d) = ap (λ (k : ℕ). uid_of Far (get_or es k d)) same in omega arith
  | inr other ↦ elim other [
    | inl less ↦ let above : EntryBefore (get_or es i d) (get_or es j d) = pairs.ordered i j d less within in above.0
    | inr more ↦ absurd (omega arith)
  ]
]

-- every entry has its place
any_at : (k : ℕ) (side : Side) (es : List Entry) (j : ℕ) → j < length es → list_any (λ p. p.at == k + j) (places_from k side es) ≡ true
any_at k side [] j within = absurd (omega arith)
any_at k side (e ∷ es) zero within = let here : (k == k + 0) ≡ true = eq-eqb k (k + 0) (omega arith) in rw here refl
any_at k side (e ∷ es) (suc j) within =
    let rest : list_any (λ (p : EntryPlace). p.at == (k + 1) + j) (places_from (k + 1) side es) ≡ true = any_at (k + 1) side es j (omega arith) in
    let there : list_any (λ (p : EntryPlace). p.at == k + suc j) (places_from (k + 1) side es) ≡ true = subst (λ (n : ℕ). list_any (λ (p : EntryPlace). p.at == n) (places_from (k + 1) side es) ≡ true) (let h : (k + 1) + j ≡ k + suc j = omega arith in h) rest in
    or_true (k == k + suc j) _ there
  where
    or_true : (a b : Bool) → b ≡ true → (a || b) ≡ true
    or_true true b h = refl
    or_true false b h = h

place_of_each : (side : Side) (es : List Entry) → All (IsPlaceOf side es) (places_from 0 side es)
place_of_each side es j d within =
    let bound : j < length es = omega (arith, places_length 0 side es) in
    let alike : (e : Entry) → get_or (places_from 0 side es) j d ≡ record { uid = uid_of side (get_or es j e); at = j } = λ e. places_get 0 side es j d e bound ∙ ap (λ (n : ℕ). record { uid = uid_of side (get_or es j e); at = n }) (let h : 0 + j ≡ j = omega arith in h) in
    record {
      bound = let e : Entry = record { far = None; near = None; flags = 0 } in subst (λ (n : ℕ). n < length es) (sym (ap (λ (p : EntryPlace). p.at) (alike e))) bound;
      named = λ e.
          let at = ap (λ (p : EntryPlace). p.at) (alike e) in
          let uid = ap (λ (p : EntryPlace). p.uid) (alike e) in
          ap (λ (n : ℕ). uid_of side (get_or es n e)) at ∙ sym uid;
    }

-- the entries' places, in any order that rises, are an index
pub is_index : (side : Side) (es : List Entry) (ps : List EntryPlace) → IsPermutation (places_from 0 side es) ps → IsNonDecreasingBy (λ p. p.uid) ps → IsIndex side es ps
is_index side es ps moved rising = record {
  rising = rising;
  named = All-permutation (IsPlaceOf side es) (places_from 0 side es) ps moved (place_of_each side es);
  whole = λ k within. sym (list_any-IsPermutation (λ p. p.at == k) (places_from 0 side es) ps moved) ∙ subst (λ (n : ℕ). list_any (λ (p : EntryPlace). p.at == n) (places_from 0 side es) ≡ true) (let h : 0 + k ≡ k = omega arith in h) (any_at 0 side es k within);
}

pub far_rising : (es : List Entry) → ArePairs es → IsNonDecreasingBy (λ p. p.uid) (places_from 0 Far es)
far_rising es pairs i j d order within =
    let bound : j < length es = omega (arith, places_length 0 Far es) in
    let e : Entry = record { far = None; near = None; flags = 0 } in
    let a = ap (λ (p : EntryPlace). p.uid) (places_get 0 Far es i d e (omega arith)) in
    let b = ap (λ (p : EntryPlace). p.uid) (places_get 0 Far es j d e bound) in
    let h = entries_rise es pairs i j e order bound in
    omega arith
