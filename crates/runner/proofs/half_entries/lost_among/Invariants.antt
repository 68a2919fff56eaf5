use Rattle.std.proofs.Common.{◌≡◌, take}
use Rattle.runner.specs.HalfEntries.{lost_among}
use Rattle.runner.proofs.half_entries.lost_among.Given as goal

abbrev pub invariant-loop-entry : goal.invariant-loop-entry
invariant-loop-entry l = l.lost.items ≡ lost_among l.fn.removed l.fn.side l.fn.own.items l.fn.others.items (take l.entry-index l.fn.state.entries)
