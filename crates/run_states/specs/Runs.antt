-- What being underway says of a device, in laws that the functions of `src/lib.rt` show.
use Rattle.std.specs.Prelude.{◌≡◌, ℕ, Bool, true, List, None}
use Rattle.rules.specs.declared.options.Options.{Options}
use Rattle.rules.specs.declared.state.SyncState.{SyncState}
use Rattle.rules.specs.Opening.{IsOpening}
use Rattle.rules.specs.World.{IsInOrder}
use Rattle.outside.specs.Devices.{Device}
use Rattle.run_states.specs.Conditions.{IsOver, IsPending}
use Rattle.run_states.specs.Openings.{Opening, Unplanned, world_at}

-- ---- one device and two runs

-- a run that has a plan on this device has this one, with these steps logged, whatever it is said to have begun with
abbrev pub OnePlan : Type 0
OnePlan =
    (ours others : List ℕ → Bool) (alone quiet : Bool) (opening : Opening ours alone) (other : Opening others quiet) (d : Device) (a : IsPending opening d) (b : IsPending other d) →
    (a.holds.plan ≡ b.holds.plan) × (a.holds.log ≡ b.holds.log)

-- and began with this state
abbrev pub OneState : Type 0
OneState =
    (ours others : List ℕ → Bool) (alone quiet : Bool) (opening : Opening ours alone) (other : Opening others quiet) (d : Device) →
    IsPending opening d → IsPending other d → opening.world.state ≡ other.world.state

-- none has a plan where another has none yet
abbrev pub PlannedOrNot : Type 0
PlannedOrNot =
    (ours others : List ℕ → Bool) (alone quiet : Bool) (opening : Opening ours alone) (other : Opening others quiet) (d : Device) →
    IsPending opening d → Unplanned other d → ⊥

-- ---- the next run

-- the world that a device holds with this state, and what calls have named on it, as the opening of a run under these options
abbrev pub next_opening : (ours : List ℕ → Bool) (alone : Bool) → Device → SyncState → Options → Opening ours alone
next_opening ours alone d state options = record { world = world_at d state; options = options; called = options; named = d.named; listed = None }

-- Where a run is done, the next one has no plan yet: it begins with the world that the device holds. The messages that others may have
-- added stand in order, as those of each mailbox.
abbrev pub DoneIsUnplanned : Type 0
DoneIsUnplanned =
    (ours : List ℕ → Bool) (alone : Bool) (opening : Opening ours alone) (d : Device) (options : Options) (over : IsOver opening d) →
    IsInOrder (world_at d over.holds.state) → Unplanned (next_opening ours alone d over.holds.state options) d

-- where nobody adds any, a run may begin with it
abbrev pub DoneIsOpening : Type 0
DoneIsOpening =
    (ours : List ℕ → Bool) (opening : Opening ours true) (d : Device) (over : IsOver opening d) →
    IsOpening opening.world → IsOpening (world_at d over.holds.state)
