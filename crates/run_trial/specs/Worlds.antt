-- The device that holds the world of a trial.
use Rattle.std.specs.Prelude.{◌<◌, ◌^◌, [], length, None}
use Rattle.rules.specs.World.{World}
use Rattle.outside.specs.Devices.{Device}
pub use Rattle.worlds.specs.Worlds.{AreNamed, IsNamed, store_of, waiting_of, world_of}
use Rattle.run_trial.specs.Shelves.{shelf_of}

-- both mailboxes and the state are the world's, there is no journal, and no message was named
abbrev pub device_of : World → Device
device_of w = record { far = w.far; near = record { store = w.near; waiting = w.waiting }; files = shelf_of w.state None; named = [] }

-- its numbers, and that of its waiting files, fit the words of a machine
pub record FitsWords (w : World) : Type 0 where
  pub far_validity : w.far.validity < 2 ^ 32
  pub far_next : w.far.next < 2 ^ 32
  pub near_validity : w.near.validity < 2 ^ 32
  pub near_next : w.near.next < 2 ^ 32
  pub run : w.state.run < 2 ^ 64
  pub waiting : length w.waiting < 2 ^ 64
