use Rattle.std.proofs.Common.{◌≡◌, ◌++◌, take, length}
use Rattle.book.specs.Committed.{entries_of_copies}
use Rattle.book.proofs.committed.push_copies.Given as goal

abbrev pub invariant-loop-step : goal.invariant-loop-step
invariant-loop-step l = l.list.items ≡ l.initial.list.items ++ entries_of_copies (take (length l.yielded) l.steps) (take (length l.yielded) l.log)
