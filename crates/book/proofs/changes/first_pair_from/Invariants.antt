use Rattle.std.proofs.Common.{length, ◌-◌}
use Rattle.book.specs.Changes.{Passed, gone_place, pair_place}
use Rattle.book.proofs.changes.first_pair_from.Given as goal

abbrev pub invariant-loop-at : goal.invariant-loop-at
invariant-loop-at l = Passed pair_place (gone_place l.entry) l.pairs l.at

abbrev pub decreases-loop-at : goal.decreases-loop-at
decreases-loop-at l = length l.pairs - l.at
