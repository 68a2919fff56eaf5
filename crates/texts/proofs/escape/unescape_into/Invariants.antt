use Rattle.std.proofs.Common.{◌≡◌, ◌++◌, length}
use Rattle.texts.specs.Escape.{escaped}
use Rattle.texts.proofs.escape.unescape_into.Given as goal

abbrev pub invariant-loop-plain : goal.invariant-loop-plain
invariant-loop-plain l = escaped l.bytes.items ++ l.rest ≡ l.fn.text

abbrev pub decreases-loop-plain : goal.decreases-loop-plain
decreases-loop-plain l = length l.rest
