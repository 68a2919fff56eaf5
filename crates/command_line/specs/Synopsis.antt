-- The synopsis, as `clap` reads it: mbsync [-c FILE] [-a] [-l] [--pull] [--push] [--new] [--gone] [--flags] [--full] [--noop] [--expunge] [CHANNEL..]
use Rattle.std.specs.Prelude.{ℕ, List, [], ◌∷◌, Some, codes, fold, map}
use Rattle.clap.specs.Walk.{Rule, Text}
use Rattle.clap.specs.Simple.{App, new_app, new_rule, with_rule}
use Rattle.clap.specs.declared.builder.action.ArgAction.TheVariants.{Append, SetTrue}
use Rattle.command_line.specs.declared.sync_flag.SyncFlag.{SyncFlag}
use Rattle.command_line.specs.SyncFlags.{sync_flags, flag_name}

-- a flag of one letter, read back by a name
abbrev pub letter_rule : Text → ℕ → Rule
letter_rule id letter = record (new_rule id) { short = Some letter; action = Some SetTrue }

-- a flag of two hyphens and its name
abbrev pub flag_rule : Text → Rule
flag_rule name = record (new_rule name) { long = Some name; action = Some SetTrue }

-- `-c FILE`
abbrev pub file_rule : Rule
file_rule = record (new_rule (codes "file")) { short = Some 99; value_names = 1 }

-- `CHANNEL..`
abbrev pub channel_rule : Rule
channel_rule = record (new_rule (codes "channel")) { action = Some Append; value_names = 1 }

-- a flag of Sync
abbrev pub sync_rule : SyncFlag → Rule
sync_rule flag = flag_rule (flag_name flag)

-- the command with these arguments after those that it has
abbrev pub with_rules : App → List Rule → App
with_rules app rules = fold with_rule app rules

-- what stands before the flags of Sync
abbrev pub before_flags : App
before_flags = with_rules (new_app (codes "mbsync")) (file_rule ∷ letter_rule (codes "all") 97 ∷ letter_rule (codes "list") 108 ∷ [])

unfoldable pub synopsis : App
synopsis = with_rules (with_rules before_flags (map sync_rule sync_flags)) (flag_rule (codes "expunge") ∷ channel_rule ∷ [])
