use Rattle.std.proofs.Common.{length}
use Rattle.config.proofs.advised_section.section_at.Given as goal

abbrev pub decreases-loop-line : goal.decreases-loop-line
decreases-loop-line l = length l.lines.rest.now
