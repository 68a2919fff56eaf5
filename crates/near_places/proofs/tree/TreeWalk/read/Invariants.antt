use Rattle.std.proofs.Common.{map, string_bytes}
use Rattle.near_places.proofs.StepLemmas.{LookedAt}
use Rattle.near_places.proofs.tree.TreeWalk.read.Given as goal

abbrev pub invariant-loop-part : goal.invariant-loop-part
invariant-loop-part g l = LookedAt l.start l.folder (map string_bytes l.yielded) l.initial.self l.self
