use Rattle.std.proofs.Common.{[], take}
use Rattle.book.specs.TakenUids.{KnowsTaken}
use Rattle.book.proofs.taken.Taken.planned.Given as goal

abbrev pub invariant-loop-step : goal.invariant-loop-step
invariant-loop-step l = KnowsTaken l.fn.entries (take l.step-index l.steps) [] l.taken
