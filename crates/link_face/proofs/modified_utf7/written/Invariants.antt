use Rattle.std.proofs.Common.{◌≡◌, ◌++◌, [], drop}
use Rattle.link_face.specs.Names.{written}
use Rattle.link_face.proofs.modified_utf7.written.Given as goal

abbrev pub invariant-loop-c : goal.invariant-loop-c
invariant-loop-c l = l.near.items ++ written l.run.items (drop l.c-index l.chars) ≡ written [] l.chars
