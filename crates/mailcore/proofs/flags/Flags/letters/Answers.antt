use Rattle.std.proofs.Common.{refl}
use Rattle.mailcore.specs.FlagNames.{letters_of}
use Rattle.mailcore.proofs.flags.Flags.letters.Goals as goal

pub returns : goal.returns
unfolding letters_of
returns c = refl
