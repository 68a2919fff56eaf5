-- The files of a folder in the order of a survey.
use Rattle.std.proofs.Common.{◌≡◌, ℕ, ◌<◌, ◌-◌, ◌⊎◌, inl, inr, ltb, ltb-true, ltb-false, All, Bool, true, false, List, [], ◌∷◌, ◌++◌, length, get_or, filter, Option, Some, refl, ap, ◌∙◌, arith}
use Rattle.std.specs.Prelude.{AllPairs, MatchBool}
use Rattle.std.specs.List.{filter_map, slice_get}
use Rattle.std.proofs.lemmas.List.Elements.{filter_map-append, filter-append}
use Rattle.std.proofs.lemmas.Option.{get_or_from_slice_get, slice_get_within}
use Rattle.near_box.specs.declared.survey.SurveyEntry.{SurveyEntry}

pub filter_map_push : {X Y : Type 0} (h : X → Option Y) (xs : List X) (x : X) → filter_map h (xs ++ x ∷ []) ≡ filter_map h xs ++ filter_map h (x ∷ [])
filter_map_push h xs x = filter_map-append h xs (x ∷ [])

pub filter_push : {X : Type 0} (p : X → Bool) (xs : List X) (x : X) → filter p (xs ++ x ∷ []) ≡ filter p xs ++ filter p (x ∷ [])
filter_push p xs x = filter-append p xs (x ∷ [])

-- ---- the last of messages in order

pub last_below : (entries : List SurveyEntry) (last : SurveyEntry) (next : ℕ) → AllPairs (λ a b. a.uid < b.uid) entries → slice_get entries (length entries - 1) ≡ Some last
    → MatchBool (ltb last.uid next) (All (λ e. e.uid < next) entries) (¬ All (λ e. e.uid < next) entries)
last_below entries last next rising is = by_test (ltb last.uid next) refl
  where
    within : length entries - 1 < length entries
    within = slice_get_within entries (length entries - 1) last is

    at_end : (d : SurveyEntry) → get_or entries (length entries - 1) d ≡ last
    at_end d = get_or_from_slice_get entries (length entries - 1) last d is

    each : last.uid < next → (k : ℕ) (d : SurveyEntry) → k < length entries → (k < length entries - 1) ⊎ (k ≡ length entries - 1) → (get_or entries k d).uid < next
    each less k d below (inl before) =
        let up = rising k (length entries - 1) d before within in
        let same = ap (λ (e : SurveyEntry). e.uid) (at_end d) in
        omega (arith, up, same, less)
    each less k d below (inr here) = let same = ap (λ (i : ℕ). (get_or entries i d).uid) here ∙ ap (λ (e : SurveyEntry). e.uid) (at_end d) in omega (arith, same, less)

    place : (k : ℕ) → k < length entries → (k < length entries - 1) ⊎ (k ≡ length entries - 1)
    place k below = by_order (ltb k (length entries - 1)) refl
      where
        by_order : (b : Bool) → ltb k (length entries - 1) ≡ b → (k < length entries - 1) ⊎ (k ≡ length entries - 1)
        by_order true e = inl (ltb-true k (length entries - 1) e)
        by_order false e = let not_less = ltb-false k (length entries - 1) e in inr (omega (arith, not_less, below))

    by_test : (b : Bool) → ltb last.uid next ≡ b → MatchBool b (All (λ e. e.uid < next) entries) (¬ All (λ e. e.uid < next) entries)
    by_test true e = λ k d below. each (ltb-true last.uid next e) k d below (place k below)
    by_test false e = λ all. let less = all (length entries - 1) last within in let same = ap (λ (x : SurveyEntry). x.uid) (at_end last) in let not_less = ltb-false last.uid next e in omega (arith, less, same, not_less)
