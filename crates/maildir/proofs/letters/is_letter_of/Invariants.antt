use Rattle.std.proofs.Common.{◌≡◌}
use Rattle.mailcore.specs.FlagNames.{letters_of}
use Rattle.maildir.specs.Letters.{has_letter}
use Rattle.maildir.proofs.letters.is_letter_of.Given as goal

abbrev pub invariant-loop-other : goal.invariant-loop-other
invariant-loop-other l = has_letter l.other-iterator l.fn.letter ≡ has_letter (letters_of l.fn.flags) l.fn.letter
