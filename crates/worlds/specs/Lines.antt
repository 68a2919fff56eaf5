-- Faults that name a line by its number.
use Rattle.std.specs.Prelude.{ℕ, ◌≡◌, ◌<◌, ◌≤◌}
use Rattle.worlds.specs.declared.fault.WorldFault.{WorldFault}
use Rattle.worlds.specs.declared.fault.WorldFault.TheVariants.{Line, NoMemory}

-- `NoMemory`, or the fault of this line
abbrev pub IsOf : ℕ → WorldFault → Type 0
IsOf number (Line n) = n ≡ number
IsOf number NoMemory = Unit {0}

-- `NoMemory`, or the fault of a line from 1 to this one
abbrev pub IsUpTo : ℕ → WorldFault → Type 0
IsUpTo last (Line n) = (0 < n) × (n ≤ last)
IsUpTo last NoMemory = Unit {0}
