use Rattle.std.proofs.Common.{◌≡◌, ◌++◌, drop, map, take}
use Rattle.book.specs.GivingUp.{half_of}
use Rattle.book.proofs.given_up.halve.Given as goal

abbrev pub invariant-loop-entry : goal.invariant-loop-entry
invariant-loop-entry l = l.entry-items ≡ map (half_of l.lost) (take l.entry-index l.fn.list.items) ++ drop l.entry-index l.fn.list.items
