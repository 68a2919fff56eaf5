-- When a run is underway: it has no plan yet, or it has one and some of its steps are done, or it is done.
use Rattle.std.specs.Prelude.{◌⊎◌, ℕ, Bool, List}
use Rattle.rules.specs.World.{scene_of}
use Rattle.planner.specs.Written.{all_steps}
use Rattle.outside.specs.Devices.{Device}
use Rattle.run_states.specs.Openings.{Opening, Since, Unplanned}
use Rattle.run_states.specs.Moments.{PlannedAt}
use Rattle.run_states.specs.Endings.{DoneAt}
use Rattle.run_states.specs.Plans.{LeavesOthers}

abbrev pub IsPending : {ours : List ℕ → Bool} {alone : Bool} → Opening ours alone → Device → Type 0
IsPending {ours} {alone} opening d = Since opening (λ w. PlannedAt ours alone opening.named w opening.options d)

abbrev pub IsOver : {ours : List ℕ → Bool} {alone : Bool} → Opening ours alone → Device → Type 0
IsOver {ours} {alone} opening d = Since opening (λ w. DoneAt ours alone opening.named w opening.options d)

abbrev pub Underway : {ours : List ℕ → Bool} {alone : Bool} → Opening ours alone → Device → Type 0
Underway {ours} {alone} opening d = Unplanned opening d ⊎ (IsPending opening d ⊎ IsOver opening d)

-- From one device to another, on which the run is over: each message that no step of the plan is to change or to remove stands as it did. The
-- steps are those of whatever world the run is over for.
abbrev pub SparesOthers : {ours : List ℕ → Bool} {alone : Bool} → Opening ours alone → (old new : Device) → Type 0
SparesOthers opening old new = (over : IsOver opening new) → LeavesOthers (all_steps (scene_of over.world opening.options) over.holds.marks) old new
