-- What a fault of the folder is to the near mailbox.
use Rattle.device.specs.declared.DeviceFault.{DeviceFault}
use Rattle.device.specs.declared.DeviceFault.TheVariants.{Stopped, NoMemory}
use Rattle.near_box.specs.declared.near_fault.NearFault.{NearFault}
use Rattle.near_box.specs.declared.near_fault.NearFault.TheVariants as near

abbrev pub near_fault : DeviceFault → NearFault
near_fault Stopped = near.Stopped
near_fault NoMemory = near.NoMemory
