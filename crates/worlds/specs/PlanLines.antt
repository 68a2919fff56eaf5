-- The lines of a plan as they are printed, each without its end (docs/FORMATS.md, "Plan lines").
use Rattle.std.specs.Prelude.{ℕ, ◌==◌, if◌then◌else◌, List, [], ◌++◌, Option, None, Some, codes}
use Rattle.std.specs.Fmt.{decimal}
use Rattle.mailcore.specs.declared.side.Side.{Side}
use Rattle.mailcore.specs.FlagNames.{letters_of}
use Rattle.mailcore.specs.Words.{direction_word, flags_word, side_word}
use Rattle.rules.specs.declared.plan.Note.{Note}
use Rattle.rules.specs.declared.plan.Note.TheVariants.{Drop, Record}
use Rattle.rules.specs.declared.plan.Step.{Step}
use Rattle.rules.specs.declared.plan.Step.TheVariants.{Expunge, Flags, Gone, New}

-- a number after a space
abbrev pub number_text : ℕ → List ℕ
number_text number = codes " " ++ decimal number

-- the numbers of a far and a near message
abbrev pub pair_text : (far near : ℕ) → List ℕ
pair_text far near = number_text far ++ number_text near

-- flags that are set or cleared, after the sign that says which; nothing if there are none
abbrev pub change_text : (sign : List ℕ) → (flags : ℕ) → List ℕ
change_text sign flags = if flags == 0 then [] else sign ++ letters_of flags

-- the UID of an entry, or 0 where it has none
abbrev pub uid_or_zero : Option ℕ → ℕ
uid_or_zero None = 0
uid_or_zero (Some uid) = uid

-- what precedes the first number of a step's line
abbrev pub line_start : Step → List ℕ
line_start (New direction uid flags mark) = codes "new " ++ direction_word direction ++ codes " "
line_start (Gone direction far near) = codes "gone " ++ direction_word direction ++ codes " "
line_start (Flags direction far near set cleared) = codes "flags " ++ direction_word direction ++ codes " "
line_start (Expunge side uid) = codes "expunge " ++ side_word side ++ codes " "

abbrev pub step_line : Step → List ℕ
step_line (New direction uid flags mark) = codes "new " ++ direction_word direction ++ number_text uid
step_line (Gone direction far near) = codes "gone " ++ direction_word direction ++ pair_text far near
step_line (Flags direction far near set cleared) =
    codes "flags " ++ direction_word direction ++ pair_text far near ++ change_text (codes " +") set ++ change_text (codes " -") cleared
step_line (Expunge side uid) = codes "expunge " ++ side_word side ++ number_text uid

abbrev pub note_line : Note → List ℕ
note_line (Record far near flags) = codes "record" ++ pair_text far near ++ codes " " ++ flags_word flags
note_line (Drop far near) = codes "drop" ++ pair_text (uid_or_zero far) (uid_or_zero near)

abbrev pub unfit_line : Side → (uid : ℕ) → List ℕ
unfit_line side uid = codes "unfit " ++ side_word side ++ number_text uid
