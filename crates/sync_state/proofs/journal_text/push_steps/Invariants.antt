use Rattle.std.proofs.Common.{◌≡◌, ◌++◌, map, take}
use Rattle.sync_state.specs.Lines.{lines_text}
use Rattle.sync_state.specs.JournalText.{step_line}
use Rattle.sync_state.proofs.journal_text.push_steps.Given as goal

abbrev pub invariant-loop-step : goal.invariant-loop-step
invariant-loop-step l = l.text.items ≡ l.initial.text.items ++ lines_text (map step_line (take l.step-index l.steps))
