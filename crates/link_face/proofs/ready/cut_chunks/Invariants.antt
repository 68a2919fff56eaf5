use Rattle.std.proofs.Common.{◌≡◌, [], ◌++◌, length}
use Rattle.link_face.proofs.ready.cut_chunks.Given as goal

abbrev pub invariant-loop : goal.invariant-loop
invariant-loop l = record { all : l.bytes.items ++ l.later ≡ l.initial.bytes.items; last : 0 ≡ length l.bytes.items → l.later ≡ [] }
