-- Which messages the calls of an attempt have named, by the files that it found, and that the others stand.
use Rattle.std.specs.Prelude.{◌≡◌, ℕ, Bool, List, Option}
use Rattle.rules.specs.declared.state.SyncState.{SyncState}
use Rattle.book.specs.declared.book.Pending.{Pending}
use Rattle.book.specs.Books.{Holds}
use Rattle.outside.specs.Devices.{Device}
use Rattle.outside.specs.Opened.{Opened}
use Rattle.run_states.specs.Conditions.{SparesOthers}
use Rattle.run_states.specs.Openings.{Opening}
use Rattle.run_states.specs.Plans.{LeavesOthers, NamedBy}
use Rattle.runner.specs.declared.pass.Pass.{Pass}
use Rattle.runner.specs.declared.pass.Pass.TheVariants.{Already, Ran, Finished}
use Rattle.runner.specs.Answers.{as_read}
use Rattle.runner.specs.Going.{plan_at, steps_of}

-- Of a run that was made before none. Else, since the opening, none but those that a step is to change or to remove: one of the steps that are
-- reported, where the plan was made in this attempt, or of the plan that was pending.
abbrev pub NamesBy : {ours : List ℕ → Bool} {alone : Bool} → Opening ours alone → Option Opened → Pass → (old new : Device) → Type 0
NamesBy opening opened Already old new = new.named ≡ old.named
NamesBy opening opened (Ran performed unfit) old new = NamedBy opening.named (steps_of performed.items) new.named
NamesBy opening opened (Finished performed) old new = NamedBy opening.named (plan_at opened).steps new.named

-- the same by what the files held
abbrev pub NamesAt : {ours : List ℕ → Bool} {alone : Bool} → Opening ours alone → Pass → (old new : Device) → Type 0
NamesAt opening pass old new = (s : SyncState) (p : Pending) → Holds old.files s p → NamesBy opening (as_read s p) pass old new

-- So each message that no step is to change or to remove stands as it did: no step of those that are reported, or of the plan that was
-- pending. Of a run that was made before, no step of the plan of any world that it is over for.
abbrev pub OthersStand : {ours : List ℕ → Bool} {alone : Bool} → Opening ours alone → Option Opened → Pass → (old new : Device) → Type 0
OthersStand opening opened Already old new = SparesOthers opening old new
OthersStand opening opened (Ran performed unfit) old new = LeavesOthers (steps_of performed.items) old new
OthersStand opening opened (Finished performed) old new = LeavesOthers (plan_at opened).steps old new
