use Rattle.std.proofs.Common.{length}
use Rattle.sync_state.specs.JournalText.{HasGo}
use Rattle.sync_state.proofs.journal_read.has_go.Given as goal

abbrev pub invariant-loop-line : goal.invariant-loop-line
invariant-loop-line l = (HasGo l.lines.rest.now → HasGo l.text) × (HasGo l.text → HasGo l.lines.rest.now)

abbrev pub decreases-loop-line : goal.decreases-loop-line
decreases-loop-line l = length l.lines.rest.now
