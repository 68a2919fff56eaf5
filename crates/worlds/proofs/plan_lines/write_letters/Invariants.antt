use Rattle.std.proofs.Common.{◌≡◌, ◌++◌, length}
use Rattle.std.specs.Fmt.{HasWritten, IsPlainFormatter}
use Rattle.mailcore.specs.FlagNames.{letters_of}
use Rattle.worlds.proofs.plan_lines.write_letters.Given as goal

abbrev pub invariant-loop-letter : goal.invariant-loop-letter
invariant-loop-letter g l =
    (l.yielded ++ l.letter-iterator ≡ letters_of l.fn.flags)
    × (l.left ≡ length l.letter-iterator)
    × (IsPlainFormatter l.initial.f → HasWritten g.W.Write.write_str_gives l.initial.f l.yielded l.f)
