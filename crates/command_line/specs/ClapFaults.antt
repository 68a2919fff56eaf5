-- Which faults of usage the errors of other crates are.
use Rattle.std.specs.Prelude.{◌≡◌, ◌≢◌}
use Rattle.clap.specs.Values.{kind_of}
use Rattle.clap.specs.declared.error.Error.{Error}
use Rattle.clap.specs.declared.error.kind.ErrorKind.TheVariants.{OutOfMemory}
use Rattle.config.specs.declared.cells.CellsFault.{CellsFault}
use Rattle.config.specs.declared.cells.CellsFault.TheVariants as cells
use Rattle.command_line.specs.declared.fault.UsageFault.{UsageFault}
use Rattle.command_line.specs.declared.fault.UsageFault.TheVariants.{Line, NoChannel, SyncWords, NoMemory}

-- an error of `clap` other than `OutOfMemory` is a fault of the line
abbrev pub Reports : Error → UsageFault → Type 0
Reports error (Line reported) = (reported ≡ error) × (kind_of error ≢ OutOfMemory)
Reports error NoChannel = ⊥
Reports error SyncWords = ⊥
Reports error NoMemory = kind_of error ≡ OutOfMemory

abbrev pub refusal_reported : CellsFault → UsageFault
refusal_reported (cells.Refused fault) = SyncWords
refusal_reported cells.NoMemory = NoMemory
