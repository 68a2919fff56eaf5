use Rattle.std.proofs.Common.{◌≡◌, ◌≤◌, ◌+◌, drop, length}
use Rattle.wire_strings.specs.Quotes.{unescaped_from, unescaped}
use Rattle.imap_answers.proofs.marks.value_len.Given as goal

abbrev pub invariant-loop-b : goal.invariant-loop-b
invariant-loop-b l = (l.count ≤ l.b-index) × (l.count + length (unescaped_from l.after_slash (drop l.b-index l.raw)) ≡ length (unescaped l.raw))
