-- A message of one mailbox is copied to the other.
use Rattle.std.specs.Prelude.{ℕ, List, Result, Ok, Err}
use Rattle.device.specs.Calls.{Effect}
use Rattle.mailcore.specs.declared.side.Direction.{Direction}
use Rattle.mailcore.specs.Sides.{source, target}
use Rattle.mailcore.specs.Mailboxes.{Mailbox}
use Rattle.outside.specs.declared.outside.Carried.{Carried}
use Rattle.outside.specs.declared.fault.OutsideFault.{OutsideFault}
use Rattle.outside.specs.BoxCalls.{Carry, SetsAside}
use Rattle.outside.specs.Calls.{LeavesBy}
use Rattle.outside.specs.Devices.{Device}
use Rattle.run_pair.specs.Parts.{put}

-- what is done, or left, of a device
abbrev pub carries : Direction → (uid flags : ℕ) → (mark : List ℕ) → Result Carried OutsideFault → Effect Device
carries direction uid flags mark (Ok carried) = Carry direction uid flags mark carried
carries direction uid flags mark (Err fault) = LeavesBy (Carry direction uid flags mark) (SetsAside (target direction)) fault

-- a device with these mailboxes
abbrev pub with_two : Direction → (from to : Mailbox) → Device → Device
with_two direction from to d = put (source direction) from (put (target direction) to d)
