use Rattle.std.proofs.Common.{take}
use Rattle.rules.specs.EntryParts.{KnowsNear}
use Rattle.rules.proofs.near_uids.gathered.Given as goal

abbrev pub invariant-loop-entry : goal.invariant-loop-entry
invariant-loop-entry l = KnowsNear l.known (take l.entry-index l.entries)
