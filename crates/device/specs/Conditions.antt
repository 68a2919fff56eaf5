-- The condition of a device.
use Rattle.std.specs.Prelude.{ℕ, Bool, false, List}
use Rattle.device.specs.Calls.{Seen}

-- whether a call has stopped since the device was opened, and how many have
pub record ConditionParts : Type 0 where
  pub is_broken : Bool
  pub stops : ℕ

-- no call has stopped
abbrev pub whole : ConditionParts
whole = record { is_broken = false; stops = 0 }

-- a device that stores this, in this condition
abbrev pub seen_in : {Stored : Type 0} → Stored → ConditionParts → Seen Stored
seen_in stored condition = record { stored = stored; is_broken = condition.is_broken; stops = condition.stops }

-- a folder of a disk as a device: the path that it was given, and its condition
pub record DiskParts : Type 0 where
  pub path : List ℕ
  pub condition : ConditionParts

-- the folder at this path, of which no call has stopped
abbrev pub disk_at : List ℕ → DiskParts
disk_at path = record { path = path; condition = whole }
