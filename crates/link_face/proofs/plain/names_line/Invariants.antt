use Rattle.std.proofs.Common.{◌++◌, codes}
use Rattle.link_face.specs.Heads.{BeginsWith}
use Rattle.link_face.proofs.plain.names_line.Given as goal

abbrev pub invariant-loop-name : goal.invariant-loop-name
invariant-loop-name l = BeginsWith (codes "* " ++ l.word) l.out.items
