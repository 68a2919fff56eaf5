use Rattle.std.proofs.Common.{◌≡◌, fold, take}
use Rattle.clap.specs.Simple.{App, app_of, with_rule}
use Rattle.command_line.specs.SyncFlags.{sync_flags}
use Rattle.command_line.specs.Synopsis.{sync_rule}
use Rattle.command_line.specs.declared.sync_flag.SyncFlag.{SyncFlag}
use Rattle.command_line.proofs.synopsis.with_sync_flags.Given as goal

abbrev pub with_flag : App → SyncFlag → App
with_flag app flag = with_rule app (sync_rule flag)

-- the flags so far follow what the command had
abbrev pub invariant-loop-flag : goal.invariant-loop-flag
invariant-loop-flag l = app_of l.command ≡ fold with_flag (app_of l.initial.command) (take l.flag-index sync_flags)
