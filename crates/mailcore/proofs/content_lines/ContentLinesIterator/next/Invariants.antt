use Rattle.std.proofs.Common.{◌≡◌, length}
use Rattle.mailcore.specs.ContentLines.{lines_left, content_lines_left}
use Rattle.mailcore.proofs.content_lines.ContentLinesIterator.next.Given as goal

abbrev pub invariant-loop-line : goal.invariant-loop-line
invariant-loop-line l = content_lines_left l.self ≡ content_lines_left l.fn.self

abbrev pub decreases-loop-line : goal.decreases-loop-line
decreases-loop-line l = length (lines_left l.self.lines)
