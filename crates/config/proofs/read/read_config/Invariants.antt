use Rattle.std.proofs.Common.{◌≡◌, ◌+◌, length}
use Rattle.texts.specs.Lines.{lines_of}
use Rattle.config.specs.Readings.{IsRead}
use Rattle.config.proofs.ReadingLemmas.{IsSoFar}
use Rattle.config.proofs.PartedLemmas.{IsParted}
use Rattle.config.proofs.read.read_config.Given as goal

abbrev pub invariant-loop-line : goal.invariant-loop-line
invariant-loop-line l =
    IsRead l.lines.taken l.reading × (l.lines.taken + length (lines_of l.lines.rest.now) ≡ length (lines_of l.text))
    × IsSoFar l.text l.lines.taken l.lines.rest.now l.reading × IsParted l.text l.lines.taken l.lines.rest.now l.reading

abbrev pub decreases-loop-line : goal.decreases-loop-line
decreases-loop-line l = length l.lines.rest.now
