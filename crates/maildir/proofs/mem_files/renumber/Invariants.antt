use Rattle.maildir.specs.NameIndexes.{KeepsRoom}
use Rattle.maildir.proofs.ReportedLemmas.{NotedTo}
use Rattle.maildir.proofs.mem_files.renumber.Given as goal

abbrev pub invariant-loop-spot : goal.invariant-loop-spot
invariant-loop-spot l = NotedTo l.spot l.slots l.initial.index l.index × KeepsRoom l.initial.index l.index
