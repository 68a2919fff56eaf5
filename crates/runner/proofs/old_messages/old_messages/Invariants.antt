use Rattle.std.proofs.Common.{◌||◌, eqb, leb, take}
use Rattle.std.specs.List.{list_any}
use Rattle.runner.specs.Before.{AreOld}
use Rattle.runner.proofs.old_messages.old_messages.Given as goal

abbrev pub invariant-loop-entry : goal.invariant-loop-entry
invariant-loop-entry l = AreOld l.fn.state.max_pushed (take l.entry-index l.fn.state.entries) (λ uid. leb uid l.fn.state.max_pushed || list_any (λ u. eqb u uid) l.others.items)
