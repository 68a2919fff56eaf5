-- What becomes of the files that waited when a run began, in a law that a function of `src/lib.rt` shows.
use Rattle.std.specs.Prelude.{◌≡◌, ◌≤◌, ℕ, Bool, true, false, ◌&&◌, List, Contains}
use Rattle.mailcore.specs.declared.side.Direction.TheVariants.{Push}
use Rattle.mailcore.specs.declared.side.Side.TheVariants.{Near}
use Rattle.mailcore.specs.Content.{fit}
use Rattle.mailcore.specs.FlagSet.{DELETED, has}
use Rattle.mailcore.specs.Stores.{Waiting}
use Rattle.rules.specs.Called.{called}
use Rattle.rules.specs.Options.{covers, goes}
use Rattle.rules.specs.Propagation.{New}
use Rattle.rules.specs.World.{World, NamesBelow, scene_of}
use Rattle.outside.specs.Devices.{Device}
use Rattle.run_states.specs.Conditions.{IsOver, IsPending}
use Rattle.run_states.specs.Openings.{Opening}

-- it is a message of this world, under a UID of at least `first`, with its flags and bytes
pub record IsRead (first : ℕ) (w : World) (f : Waiting) : Type 0 where
  pub uid : ℕ
  pub least : first ≤ uid
  pub is_there : Contains w.near.messages (record { uid = uid; flags = f.flags; bytes = f.bytes })

-- Each file that waited at the opening is a message of the world that the run was planned on, whether or not others add files: while its plan is
-- pending, and once it is over.
abbrev pub WaitingArePlanned : Type 0
WaitingArePlanned =
    (ours : List ℕ → Bool) (alone : Bool) (opening : Opening ours alone) (d : Device) (pending : IsPending opening d) (f : Waiting) →
    Contains opening.world.waiting f → IsRead opening.world.near.next pending.world f

abbrev pub WaitingAreRead : Type 0
WaitingAreRead =
    (ours : List ℕ → Bool) (alone : Bool) (opening : Opening ours alone) (d : Device) (over : IsOver opening d) (f : Waiting) →
    Contains opening.world.waiting f → IsRead opening.world.near.next over.world f

-- and the plan copied each that is fit, where new near messages are copied, unless it is marked as deleted and Expunge covers the near side
abbrev pub WaitingAreCopied : Type 0
WaitingAreCopied =
    (ours : List ℕ → Bool) (alone : Bool) (opening : Opening ours alone) (d : Device) (over : IsOver opening d) (f : Waiting) →
    NamesBelow opening.world → (read : IsRead opening.world.near.next over.world f) →
    goes opening.options.cells.new Push ≡ true → fit Near f.bytes ≡ true → (has f.flags DELETED && covers opening.options.expunge Near) ≡ false →
    called (scene_of over.world opening.options) (New Push read.uid) ≡ true
