-- A device on a disk with the record of the calls of the system on it, as a contract sees it.
use Rattle.std.specs.Prelude.{◌≡◌, List}
use Rattle.device.specs.Conditions.{DiskParts}

-- the folder, what no program can know, and the calls, the last one first
pub record Recorded (World Event : Type 0) : Type 0 where
  pub disk : DiskParts
  pub world : World
  pub events : List Event

-- no call was noted
pub record Unnoted {World Event : Type 0} (old new : Recorded World Event) : Type 0 where
  pub path : new.disk.path ≡ old.disk.path
  pub world : new.world ≡ old.world
  pub events : new.events ≡ old.events
