use Rattle.std.proofs.Common.{length, ◌-◌, ◌≡◌, ◌≤◌, ◌+◌, ℕ, drop}
use Rattle.std.specs.Prelude.{find, ◌==◌}
use Rattle.planner.proofs.places.first_place_from.Given as goal

abbrev pub invariant-loop-at : goal.invariant-loop-at
invariant-loop-at l =
    (l.from ≤ l.at) × (l.at ≤ length l.places) × (l.turns + l.from ≡ l.fn.turns + l.at)
    × ((u : ℕ) → l.uid ≤ u → find (λ p. p.uid == u) (drop l.at l.places) ≡ find (λ p. p.uid == u) (drop l.from l.places))

abbrev pub decreases-loop-at : goal.decreases-loop-at
decreases-loop-at l = length l.places - l.at
