use Rattle.runner.proofs.HalfEntries.{removes_by, never_none}
use Rattle.runner.proofs.half_entries.has_removed_some.Goals as goal

pub returns-in-Some : goal.returns-in-Some
returns-in-Some g c = removes_by (g.O.Outside.opened c.args.outside.now) c.removes_some.result c.in-Some.journal.now c.in-Some.ensures c.removes_some.ensures

pub returns-in-None : goal.returns-in-None
returns-in-None g c = λ j is. never_none (g.O.Outside.opened c.args.outside.now) j c.in-None.ensures is
