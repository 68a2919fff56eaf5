-- The flags of the command line that are Sync words.
use Rattle.std.specs.Prelude.{ℕ, List, [], ◌∷◌, codes}
use Rattle.mailcore.specs.declared.side.Direction.TheVariants as direction
use Rattle.rules.specs.declared.sync_words.SyncType.TheVariants as kind
use Rattle.rules.specs.declared.sync_words.SyncWord.{SyncWord}
use Rattle.rules.specs.declared.sync_words.SyncWord.TheVariants as word
use Rattle.command_line.specs.declared.sync_flag.SyncFlag.{SyncFlag}
use Rattle.command_line.specs.declared.sync_flag.SyncFlag.TheVariants.{Pull, Push, New, Gone, Flags, Full, Noop}

-- in the order of the synopsis
abbrev pub sync_flags : List SyncFlag
sync_flags = Pull ∷ Push ∷ New ∷ Gone ∷ Flags ∷ Full ∷ Noop ∷ []

abbrev pub flag_name : SyncFlag → List ℕ
flag_name Pull = codes "pull"
flag_name Push = codes "push"
flag_name New = codes "new"
flag_name Gone = codes "gone"
flag_name Flags = codes "flags"
flag_name Full = codes "full"
flag_name Noop = codes "noop"

abbrev pub flag_word : SyncFlag → SyncWord
flag_word Pull = word.Way direction.Pull
flag_word Push = word.Way direction.Push
flag_word New = word.Sort kind.New
flag_word Gone = word.Sort kind.Gone
flag_word Flags = word.Sort kind.Flags
flag_word Full = word.Full
flag_word Noop = word.Nothing
