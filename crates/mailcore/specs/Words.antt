-- The words of mail in texts: flags, directions and sides.
use Rattle.std.specs.Prelude.{ℕ, ◌==◌, if◌then◌else◌, List, codes}
use Rattle.mailcore.specs.declared.side.Direction.{Direction}
use Rattle.mailcore.specs.declared.side.Direction.TheVariants.{Pull, Push}
use Rattle.mailcore.specs.declared.side.Side.{Side}
use Rattle.mailcore.specs.declared.side.Side.TheVariants.{Far, Near}
use Rattle.mailcore.specs.FlagNames.{letters_of}

-- the letters of flags, or `-` for none
abbrev pub flags_word : ℕ → List ℕ
flags_word flags = if flags == 0 then codes "-" else letters_of flags

abbrev pub direction_word : Direction → List ℕ
direction_word Pull = codes "pull"
direction_word Push = codes "push"

abbrev pub side_word : Side → List ℕ
side_word Far = codes "far"
side_word Near = codes "near"
