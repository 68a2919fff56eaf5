use Rattle.std.proofs.Common.{ℕ, List}
use Rattle.mailcore.specs.PatternRows.{IsRow}
use Rattle.mailcore.proofs.PatternRowLemmas.{IsMade}
use Rattle.mailcore.proofs.mailbox_pattern.put_before.Given as goal

abbrev pub invariant-loop-done : goal.invariant-loop-done
invariant-loop-done l = (cs : List ℕ) → IsRow l.pattern cs l.fn.row → IsMade l.pattern l.c cs l.done l.after l.row
