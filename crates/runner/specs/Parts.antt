-- What a part of a run reaches, or leaves.
use Rattle.std.specs.Prelude.{◌≡◌, ◌≤◌, ◌+◌, ◌++◌, ℕ, true, false, List, Option, Result, Ok, Err, IsErrAnd}
use Rattle.outside.specs.declared.fault.OutsideFault.{OutsideFault}
use Rattle.outside.specs.Calls.{Seen}
use Rattle.outside.specs.Devices.{Device}
use Rattle.outside.specs.GoingOn.{GoesOn}
use Rattle.outside.specs.Opened.{Opened}
use Rattle.runner.specs.declared.fault.RunFault.{RunFault}
use Rattle.runner.specs.declared.fault.RunFault.TheVariants.{Stopped}
use Rattle.runner.specs.Faults.{IsCaused, LeavesRun, Reasons, RefusedAt, ReportsRefused, or_refused, performing, stops_met}
use Rattle.runner.specs.Going.{number_at}

-- what was reported before stands after what was reported since
pub record ReportsMore (old new : Seen) : Type 0 where
  pub since : List OutsideFault
  pub now : new.reported ≡ since ++ old.reported

-- neither count falls, nothing that was reported is lost, and nothing was opened again
pub record NoLess (old new : Seen) : Type 0 where
  pub stops : old.stops ≤ new.stops
  pub reported : ReportsMore old new
  pub appends : old.appends ≤ new.appends
  pub reopened : new.reopened ≡ old.reopened

-- a part that answered: no call of it had a fault, it has made so many copies, nothing was opened again, the device has gone on, and it
-- leads from one condition to another
pub record Passed (honest : Type 0) (from to : Device → Type 0) (copies : ℕ) (old new : Seen) : Type 0 where
  pub is_whole : new.is_broken ≡ false
  pub stops : new.stops ≡ old.stops
  pub reported : new.reported ≡ old.reported
  pub appends : new.appends ≡ old.appends + copies
  pub reopened : new.reopened ≡ old.reopened
  pub goes_on : honest → GoesOn old.device new.device
  pub reaches : honest → from old.device → to new.device

-- a part that ended with a fault; where the outside was whole before, a stop that it reports was counted once, and no other. The device has
-- gone on.
pub record Left (reasons : Reasons) (honest : Type 0) (from underway : Device → Type 0) (fault : RunFault) (old new : Seen) : Type 0 where
  pub caused : IsCaused reasons fault old new
  pub no_less : NoLess old new
  pub stops : old.is_broken ≡ false → new.stops ≡ old.stops + stops_met fault
  pub goes_on : honest → GoesOn old.device new.device
  pub left : honest → from old.device → LeavesRun underway fault old new

-- a part that may report a fault of the run's own, for these reasons
abbrev pub PartOr : {T : Type 0} → Reasons → (honest : Type 0) → (from underway : Device → Type 0) → (copies : T → ℕ) → (reaches : T → Device → Type 0) → Seen → Seen → Result T RunFault → Type 0
PartOr reasons honest from underway copies reaches old new (Ok answer) = Passed honest from (reaches answer) (copies answer) old new
PartOr reasons honest from underway copies reaches old new (Err fault) = Left reasons honest from underway fault old new

-- no reason at all
abbrev pub Never : Reasons
Never = performing (λ step. ⊥)

-- a part that performs no step, and reports no fault of the run's own
abbrev pub Part : {T : Type 0} → (honest : Type 0) → (from underway : Device → Type 0) → (copies : T → ℕ) → (reaches : T → Device → Type 0) → Seen → Seen → Result T RunFault → Type 0
Part honest from underway copies reaches old new result = PartOr Never honest from underway copies reaches old new result

-- a refusal is reported of the step of this number, and the files hold the plan of which it is the next step
abbrev pub InStep : (number : ℕ) → Option Opened → (honest from : Type 0) → Device → Reasons
InStep number opened honest from d = performing (λ step. (step ≡ number) × (honest → from → RefusedAt (number_at opened) d))

-- a part that performs the step of this number, and reports no fault of the run's own
abbrev pub StepPart : {T : Type 0} → (number : ℕ) → Option Opened → (honest : Type 0) → (from underway : Device → Type 0) → (copies : T → ℕ) → (reaches : T → Device → Type 0) → Seen → Seen → Result T RunFault → Type 0
StepPart number opened honest from underway copies reaches old new result = PartOr (InStep number opened honest (from old.device) new.device) honest from underway copies reaches old new result

-- a part that performs steps of the plan that is pending, and may report a fault of the run's own, for these reasons
abbrev pub RunPart : {T : Type 0} → Reasons → (now : Option Opened) → (honest : Type 0) → (from underway : Device → Type 0) → (copies : T → ℕ) → (reaches : T → Device → Type 0) → Seen → Seen → Result T RunFault → Type 0
RunPart reasons now honest from underway copies reaches old new result = PartOr (or_refused (ReportsRefused now honest (from old.device) new.device) reasons) honest from underway copies reaches old new result

-- on an outside that had failed before, a part stops and changes nothing
abbrev pub IsStuck : {T : Type 0} → (old new : Seen) → Result T RunFault → Type 0
IsStuck old new result = old.is_broken ≡ true → IsErrAnd result (λ fault. fault ≡ Stopped) × (new ≡ old)
