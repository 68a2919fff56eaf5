-- How a run's end is reported.
use Rattle.std.specs.Prelude.{ℕ, Result, Ok, Err}
use Rattle.runner.specs.declared.fault.RunFault.{RunFault}
use Rattle.runner.specs.declared.fault.RunFault.TheVariants.{Stopped, Refused, ValidityChanged, BadState, BadJournal, StoreFault, MarksRepeat, NoMemory, KeywordsChanged}

-- the number of a fault
abbrev pub fault_number : RunFault → ℕ
fault_number Stopped = 1
fault_number (Refused step) = 2
fault_number (ValidityChanged side) = 3
fault_number (BadState line) = 4
fault_number (BadJournal line) = 5
fault_number (StoreFault side number) = 6
fault_number MarksRepeat = 7
fault_number NoMemory = 8
fault_number KeywordsChanged = 9

-- the exit status
abbrev pub status_of : {T : Type 0} → Result T RunFault → ℕ
status_of (Ok settled) = 0
status_of (Err fault) = 1
