-- Calls on the folder of a mailbox, as laws name them.
use Rattle.std.specs.Prelude.{ℕ, true, List, []}
use Rattle.maildir.specs.declared.disk_call.DiskDeed.{DiskDeed}
use Rattle.maildir.specs.declared.disk_call.DiskDeed.TheVariants.{Missing, Read}
use Rattle.maildir.specs.declared.folder.Place.{Place}
use Rattle.maildir.specs.DiskEvents.{DiskEvent}

abbrev pub answered : DiskDeed → List ℕ → List ℕ → DiskEvent
answered deed name bytes = record { call = record { deed = deed; is_ok = true }; name = name; bytes = bytes; names = [] }

-- a read that gave these bytes
abbrev pub read_of : Place → List ℕ → List ℕ → DiskEvent
read_of place name bytes = answered (Read place) name bytes

-- an answer that there is no such file
abbrev pub missing : Place → List ℕ → DiskEvent
missing place name = answered (Missing place) name []
