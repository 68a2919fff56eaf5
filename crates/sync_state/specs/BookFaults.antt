-- The fault of a book that a shelf's fault is.
use Rattle.device.specs.declared.DeviceFault.{DeviceFault}
use Rattle.device.specs.declared.DeviceFault.TheVariants as device
use Rattle.sync_state.specs.declared.fault.BookFault.{BookFault}
use Rattle.sync_state.specs.declared.fault.BookFault.TheVariants.{Stopped, NoMemory}

abbrev pub of_shelf : DeviceFault → BookFault
of_shelf device.Stopped = Stopped
of_shelf device.NoMemory = NoMemory
