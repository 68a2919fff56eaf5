-- The exit statuses of words that name no request.
use Rattle.std.specs.Prelude.{ℕ, Bool, ◌==◌}
use Rattle.clap.specs.Values.{kind_of}
use Rattle.clap.specs.declared.error.kind.ErrorKind.{ErrorKind}
use Rattle.clap.specs.declared.error.kind.ErrorKind.TheVariants.{DisplayHelp}
use Rattle.command_line.specs.declared.fault.UsageFault.{UsageFault}
use Rattle.command_line.specs.declared.fault.UsageFault.TheVariants.{Line, NoChannel, SyncWords, NoMemory}

-- help is no fault
abbrev pub status_of_kind : ErrorKind → ℕ
status_of_kind DisplayHelp = 0
status_of_kind _ = 2

abbrev pub status_of : UsageFault → ℕ
status_of (Line error) = status_of_kind (kind_of error)
status_of NoChannel = 2
status_of SyncWords = 2
status_of NoMemory = 1

-- the words ask for help
abbrev pub is_help : UsageFault → Bool
is_help fault = status_of fault == 0
