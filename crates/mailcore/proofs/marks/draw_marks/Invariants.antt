use Rattle.std.proofs.Common.{◌≡◌, ℕ, ◌+◌, ◌≤◌, List, vec_capacity}
use Rattle.std.specs.HashSet.{spare}
use Rattle.mailcore.specs.Draws.{Draws, after_pairs, is_listed}
use Rattle.mailcore.proofs.marks.draw_marks.Given as goal

abbrev pub invariant-marks : goal.invariant-marks
invariant-marks g l = record {
  drawn : (drawn : Draws (g.R.Rng.stream l.initial.rng) l.counter l.marks.items) × (g.R.Rng.stream l.rng ≡ after_pairs (g.R.Rng.stream l.initial.rng) drawn.pairs);
  room : l.count ≤ vec_capacity l.marks;
  spare : l.count ≤ spare l.known + l.counter;
  same : (other : List ℕ) → is_listed l.known.keys other ≡ is_listed l.marks.items other;
}
