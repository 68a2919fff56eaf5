use Rattle.std.proofs.Common.{◌≡◌, length}
use Rattle.mailcore.specs.FlagNames.{letters_from}
use Rattle.mailcore.proofs.flags.LettersIterator.next.Given as goal

abbrev pub invariant-loop-self : goal.invariant-loop-self
invariant-loop-self l =
    letters_from l.self-inside.place l.self-inside.left.now l.self-inside.flags
    ≡ letters_from l.initial.self-inside.place l.initial.self-inside.left.now l.initial.self-inside.flags

abbrev pub decreases-loop-self : goal.decreases-loop-self
decreases-loop-self l = length l.self-inside.left.now
