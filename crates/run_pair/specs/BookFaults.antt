-- How the faults of a book are reported.
use Rattle.std.specs.Prelude.{Result, Ok, Err}
use Rattle.sync_state.specs.declared.fault.BookFault.{BookFault}
use Rattle.sync_state.specs.declared.fault.BookFault.TheVariants as book
use Rattle.outside.specs.declared.fault.OutsideFault.{OutsideFault}
use Rattle.outside.specs.declared.fault.OutsideFault.TheVariants as outside

abbrev pub reported : BookFault → OutsideFault
reported book.Stopped = outside.Stopped
reported (book.BadState line) = outside.BadState line
reported (book.BadJournal line) = outside.BadJournal line
reported book.NoMemory = outside.NoMemory

abbrev pub reported_by : {T : Type 0} → Result T BookFault → Result T OutsideFault
reported_by (Ok answer) = Ok answer
reported_by (Err fault) = Err (reported fault)
