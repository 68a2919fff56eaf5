-- The UIDs of messages that are sorted by them.
use Rattle.std.proofs.Common.{◌≡◌, ℕ, ◌<◌, List, [], ◌∷◌, arith, get_or, length, map}
use Rattle.std.specs.Prelude.{filter}
use Rattle.std.specs.List.Sorted.{IsNonDecreasingBy}
use Rattle.std.proofs.lemmas.List.{get_or-map, length-map}
use Rattle.std.proofs.lemmas.List.Kept.{IsNonDecreasingBy-filter}
use Rattle.guarded.specs.declared.due.Due.{Due}
use Rattle.guarded.specs.Dues.{is_due}
use Rattle.guarded.specs.Watches.{uids_due}

uids_rise : {X : Type 0} (uid : X → ℕ) (xs : List X) → IsNonDecreasingBy uid xs → IsNonDecreasingBy (λ (n : ℕ). n) (map uid xs)
uids_rise uid [] rising = λ i j d order within. absurd (omega (arith, within))
uids_rise uid (x ∷ xs) rising = λ i j d order within.
    let count : length (map uid (x ∷ xs)) ≡ length (x ∷ xs) = length-map (x ∷ xs) uid in
    let below : j < length (x ∷ xs) = omega arith in
    let here : get_or (map uid (x ∷ xs)) i d ≡ uid (get_or (x ∷ xs) i x) = get_or-map uid (x ∷ xs) i x d (omega arith) in
    let there : get_or (map uid (x ∷ xs)) j d ≡ uid (get_or (x ∷ xs) j x) = get_or-map uid (x ∷ xs) j x d below in
    let up = rising i j x order below in
    omega (arith, here, there, up)

pub due_rise : (logged : ℕ) (dues : List Due) → IsNonDecreasingBy (λ (due : Due). due.uid) dues → IsNonDecreasingBy (λ (n : ℕ). n) (uids_due logged dues)
due_rise logged dues rising = uids_rise (λ (due : Due). due.uid) (filter (is_due logged) dues) (IsNonDecreasingBy-filter (λ (due : Due). due.uid) (is_due logged) dues rising)
