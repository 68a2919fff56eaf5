use Rattle.std.proofs.Common.{◌+◌, length, cond}
use Rattle.sync_state.proofs.KeywordReading.{ReadSoFar}
use Rattle.sync_state.proofs.keyword_lines.read_keywords.Given as goal

abbrev pub invariant-loop-goes_on : goal.invariant-loop-goes_on
invariant-loop-goes_on l = ReadSoFar l.fn.version l.goes_on l.keywords l.initial.lines l.lines

-- the text that is left, and one round more where it goes on
abbrev pub decreases-loop-goes_on : goal.decreases-loop-goes_on
decreases-loop-goes_on l = length l.lines.rest.now + cond l.goes_on 1 0
