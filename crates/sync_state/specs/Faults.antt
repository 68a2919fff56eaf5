-- What a fault of a text says.
use Rattle.std.specs.Prelude.{ℕ, List}
use Rattle.sync_state.specs.declared.fault.BookFault.{BookFault}
use Rattle.sync_state.specs.declared.fault.BookFault.TheVariants.{Stopped, BadState, BadJournal, NoMemory}
use Rattle.sync_state.specs.Lines.{IsBadLine}
use Rattle.sync_state.specs.StateText.{StateLines}

-- the bad line of a state text, or `NoMemory`
abbrev pub ReportsState : List ℕ → BookFault → Type 0
ReportsState text Stopped = ⊥
ReportsState text (BadState line) = IsBadLine StateLines text line
ReportsState text (BadJournal line) = ⊥
ReportsState text NoMemory = Unit {0}
