use Rattle.std.proofs.Common.{◌≡◌, take}
use Rattle.mailcore.proofs.keywords.clones_of.Given as goal

abbrev pub invariant-loop-keyword : goal.invariant-loop-keyword
invariant-loop-keyword l = l.clones.items ≡ take l.keyword-index l.keywords
