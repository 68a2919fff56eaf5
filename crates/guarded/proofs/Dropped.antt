-- Near messages of entries that go, in whatever order those stand that steps remove.
use Rattle.std.proofs.Common.{◌≡◌, ℕ, Bool, List, [], ◌∷◌, Option, None, Some, if◌then◌else◌, refl, ap, sym}
use Rattle.std.specs.Prelude.{IsPermutation, option_and_then, ◌==◌}
use Rattle.std.specs.List.{filter_map, list_any}
use Rattle.std.proofs.lemmas.List.Sorted.{list_any-IsPermutation}
use Rattle.rules.specs.declared.plan.Note.{Note}
use Rattle.guarded.specs.Dues.{always, dropped_by, dropped_near}

same_one : (xs ys : List ℕ) → IsPermutation xs ys → (note : Note) → dropped_by ys note ≡ dropped_by xs note
same_one xs ys same note = by (dropped_near note)
  where
    by : (near : Option ℕ)
        → option_and_then (λ uid. if list_any (λ one. one == uid) ys then None else Some (always uid)) near ≡ option_and_then (λ uid. if list_any (λ one. one == uid) xs then None else Some (always uid)) near
    by None = refl
    by (Some uid) = ap (λ (b : Bool). if b then None else Some (always uid)) (sym (list_any-IsPermutation (λ one. one == uid) xs ys same))

pub dropped_alike : (xs ys : List ℕ) → IsPermutation xs ys → (notes : List Note) → filter_map (dropped_by ys) notes ≡ filter_map (dropped_by xs) notes
dropped_alike xs ys same [] = refl
dropped_alike xs ys same (note ∷ notes) = rw (same_one xs ys same note, dropped_alike xs ys same notes) refl
