use Rattle.mailcore.proofs.PatternRowLemmas.{IsEnd}
use Rattle.mailcore.proofs.mailbox_pattern.put_end.Given as goal

abbrev pub invariant-loop-done : goal.invariant-loop-done
invariant-loop-done l = IsEnd l.pattern l.done l.row
