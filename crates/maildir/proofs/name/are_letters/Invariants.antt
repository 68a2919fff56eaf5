use Rattle.std.proofs.Common.{◌≡◌, length}
use Rattle.maildir.specs.Names.{are_letters}
use Rattle.maildir.proofs.name.are_letters.Given as goal

abbrev pub invariant-loop-rest : goal.invariant-loop-rest
invariant-loop-rest l = are_letters l.rest ≡ are_letters l.letters

abbrev pub decreases-loop-rest : goal.decreases-loop-rest
decreases-loop-rest l = length l.rest
