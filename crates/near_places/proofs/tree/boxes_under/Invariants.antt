use Rattle.near_places.proofs.StepLemmas.{IsWalk}
use Rattle.near_places.proofs.tree.boxes_under.Given as goal

abbrev pub invariant-loop : goal.invariant-loop
invariant-loop g l = IsWalk l.start l.inbox l.walk
