use Rattle.std.proofs.Common.{◌≡◌, ◌++◌, map, take}
use Rattle.sync_state.specs.Lines.{lines_text}
use Rattle.sync_state.specs.StateText.{entry_line}
use Rattle.sync_state.proofs.state_text.write_state_text.Given as goal

abbrev pub invariant-loop-entry : goal.invariant-loop-entry
invariant-loop-entry l = l.text.items ≡ l.initial.text.items ++ lines_text (map entry_line (take l.entry-index l.entry-items))
