use Rattle.std.proofs.Common.{◌≡◌, ◌+◌, length}
use Rattle.sync_state.specs.StateReading.{AreEntries}
use Rattle.sync_state.proofs.state_text.read_entries.Given as goal

abbrev pub invariant-loop-entry : goal.invariant-loop-entry
invariant-loop-entry l = AreEntries l.version l.entries l.initial.lines.rest.now l.lines.rest.now × (l.lines.taken ≡ l.initial.lines.taken + length l.entries)

abbrev pub decreases-loop-entry : goal.decreases-loop-entry
decreases-loop-entry l = length l.lines.rest.now
