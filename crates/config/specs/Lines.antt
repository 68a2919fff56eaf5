-- Faults that name a line by its number.
use Rattle.std.specs.Prelude.{ℕ, ◌≢◌, ◌<◌, ◌≤◌}
use Rattle.config_words.specs.declared.fault.ConfigFault.{ConfigFault}
use Rattle.config_words.specs.declared.fault.FaultKind.TheVariants.{NoMemory}

-- a fault of a line from 1 to this one, or want of memory
abbrev pub IsUpTo : ℕ → ConfigFault → Type 0
IsUpTo last fault = fault.kind ≢ NoMemory → (0 < fault.line) × (fault.line ≤ last)
