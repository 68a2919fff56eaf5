use Rattle.std.proofs.Common.{◌≡◌, ◌+◌, length}
use Rattle.sync_state.specs.JournalReading.{AreLogged}
use Rattle.sync_state.proofs.journal_read.read_log.Given as goal

abbrev pub invariant-loop-line : goal.invariant-loop-line
invariant-loop-line l = AreLogged l.steps l.log.items l.initial.lines.rest.now l.lines.rest.now × (l.lines.taken ≡ l.initial.lines.taken + length l.log.items)

abbrev pub decreases-loop-line : goal.decreases-loop-line
decreases-loop-line l = length l.lines.rest.now
