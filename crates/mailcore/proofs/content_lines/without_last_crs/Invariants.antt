use Rattle.std.proofs.Common.{◌≡◌, length}
use Rattle.mailcore.specs.ContentLines.{without_last_crs}
use Rattle.mailcore.proofs.content_lines.without_last_crs.Given as goal

abbrev pub invariant-loop-front : goal.invariant-loop-front
invariant-loop-front l = without_last_crs l.text ≡ without_last_crs l.fn.text

abbrev pub decreases-loop-front : goal.decreases-loop-front
decreases-loop-front l = length l.text
