use Rattle.std.proofs.Common.{◌≡◌, ◌++◌}
use Rattle.mailcore.specs.FlagNames.{letters_of}
use Rattle.sync_state.proofs.words.push_letters.Given as goal

abbrev pub invariant-loop-letter : goal.invariant-loop-letter
invariant-loop-letter l =
    (l.text.items ++ l.letter-iterator ≡ l.initial.text.items ++ letters_of l.fn.flags) × (l.text.items ≡ l.initial.text.items ++ l.yielded)
