use Rattle.std.proofs.Common.{◌≡◌, ℕ, ◌+◌, length, drop}
use Rattle.mailcore.specs.PatternRows.{IsRow}
use Rattle.mailcore.proofs.mailbox_pattern.fill_row.Given as goal

abbrev pub invariant-loop-done : goal.invariant-loop-done
invariant-loop-done l = (j : ℕ) → j + l.done ≡ length l.name → IsRow l.pattern (drop j l.name) l.row
