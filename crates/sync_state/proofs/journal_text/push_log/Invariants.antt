use Rattle.std.proofs.Common.{◌≡◌, ◌++◌, take}
use Rattle.sync_state.specs.Lines.{lines_text}
use Rattle.sync_state.specs.JournalText.{log_lines}
use Rattle.sync_state.proofs.journal_text.push_log.Given as goal

abbrev pub invariant-loop-i : goal.invariant-loop-i
invariant-loop-i l = l.text.items ≡ l.initial.text.items ++ lines_text (log_lines 1 (take l.i l.log))
