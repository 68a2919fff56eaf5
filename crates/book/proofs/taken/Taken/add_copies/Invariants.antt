use Rattle.std.proofs.Common.{[], List, take}
use Rattle.rules.specs.declared.entry.Entry.{Entry}
use Rattle.rules.specs.declared.plan.Step.{Step}
use Rattle.book.specs.Agreement.{copies_of}
use Rattle.book.specs.TakenUids.{KnowsTaken}
use Rattle.book.proofs.taken.Taken.add_copies.Given as goal

abbrev pub invariant-loop-i : goal.invariant-loop-i
invariant-loop-i l = (entries : List Entry) (plan : List Step) → KnowsTaken entries plan [] l.initial.self → KnowsTaken entries plan (copies_of l.steps (take l.i l.log)) l.self
