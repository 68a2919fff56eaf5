use Rattle.std.proofs.Common.{◌≡◌, map, filter, take}
use Rattle.clap.specs.Words.{found_of, rows_of}
use Rattle.command_line.specs.Requests.{stands}
use Rattle.command_line.specs.SyncFlags.{sync_flags, flag_name, flag_word}
use Rattle.command_line.proofs.read.sync_words.Given as goal

-- the words so far are those of the flags so far that stand on the line
abbrev pub invariant-loop-flag : goal.invariant-loop-flag
invariant-loop-flag l =
    l.words.items ≡ map flag_word (filter (λ flag. stands (rows_of (found_of l.matches)) (flag_name flag)) (take l.flag-index sync_flags))
