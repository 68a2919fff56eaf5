use Rattle.std.proofs.Common.{length}
use Rattle.config.proofs.advice.add_others.Given as goal

abbrev pub decreases-loop-line : goal.decreases-loop-line
decreases-loop-line l = length l.lines.rest.now
