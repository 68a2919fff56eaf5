use Rattle.std.proofs.Common.{◌≡◌, map}
use Rattle.run_trial.specs.Among.{arrival_of}
use Rattle.run_trial.proofs.visited.far_arrivals.Given as goal

abbrev pub invariant-loop-arrival : goal.invariant-loop-arrival
invariant-loop-arrival l = l.list.items ≡ map arrival_of l.yielded
