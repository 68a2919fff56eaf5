-- What being underway comes to, in laws that the functions of `src/lib.rt` show.
use Rattle.std.specs.Prelude.{ℕ, Bool, true, List, length}
use Rattle.rules.specs.Opening.{IsOpening}
use Rattle.outside.specs.Arrivals.{Arrives}
use Rattle.outside.specs.Devices.{Device}
use Rattle.run_states.specs.Conditions.{IsOver, IsPending, Underway}
use Rattle.run_states.specs.Endings.{IsDone}
use Rattle.run_states.specs.Moments.{boxes_at}
use Rattle.run_states.specs.Openings.{Opening, Unplanned}
use Rattle.run_states.specs.Stale.{NoneIsStale}

-- whatever others add, a run that is underway stays so: without a plan, with one, and done
abbrev pub OthersKeep : Type 0
OthersKeep = (ours : List ℕ → Bool) (alone : Bool) (opening : Opening ours alone) (d m : Device) → Arrives ours alone d m → Underway opening d → Underway opening m

abbrev pub OthersKeepUnplanned : Type 0
OthersKeepUnplanned = (ours : List ℕ → Bool) (alone : Bool) (opening : Opening ours alone) (d m : Device) → Arrives ours alone d m → Unplanned opening d → Unplanned opening m

abbrev pub OthersKeepPending : Type 0
OthersKeepPending = (ours : List ℕ → Bool) (alone : Bool) (opening : Opening ours alone) (d m : Device) → Arrives ours alone d m → IsPending opening d → IsPending opening m

-- Of a plan that is pending no step that is not logged is stale, and none that is has spared what it was to remove: others add messages, and
-- nobody else removes any or changes flags.
abbrev pub NothingIsStale : Type 0
NothingIsStale =
    (ours : List ℕ → Bool) (alone : Bool) (opening : Opening ours alone) (d : Device) (pending : IsPending opening d) →
    (let at = pending.holds in NoneIsStale at.plan.steps (length at.log) (boxes_at d))

-- where nobody adds any, a run that is done has left what the rules name for its opening, up to the UIDs given and the marks of copies
abbrev pub DoneIsAlike : Type 0
DoneIsAlike = (ours : List ℕ → Bool) (opening : Opening ours true) (d : Device) → IsOpening opening.world → IsOver opening d → IsDone opening.world opening.options d
