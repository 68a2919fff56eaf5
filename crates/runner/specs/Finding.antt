-- Whether a copy that is reported was made in this pass or found: by what the target held when the pass began.
use Rattle.std.specs.Prelude.{◌≡◌, ℕ, All, Bool, true, List, [], ◌∷◌, Option, None, Some}
use Rattle.mailcore.specs.declared.side.Side.{Side}
use Rattle.mailcore.specs.declared.side.Direction.{Direction}
use Rattle.mailcore.specs.Operations.{marked_from}
use Rattle.mailcore.specs.Sides.{target}
use Rattle.rules.specs.declared.plan.Plan.{Plan}
use Rattle.rules.specs.declared.plan.Step.{Step}
use Rattle.rules.specs.declared.plan.Step.TheVariants as step
use Rattle.rules.specs.declared.state.SyncState.{SyncState}
use Rattle.book.specs.declared.book.Pending.{Pending}
use Rattle.book.specs.Books.{Holds}
use Rattle.outside.specs.Devices.{Device, box}
use Rattle.outside.specs.Opened.{Opened}
use Rattle.run_states.specs.Plans.{first_uid}
use Rattle.runner.specs.declared.pass.Pass.{Pass}
use Rattle.runner.specs.declared.pass.Pass.TheVariants.{Already, Ran, Finished}
use Rattle.runner.specs.declared.performed.Performed.{Performed}
use Rattle.runner.specs.declared.performed.StepResult.{StepResult}
use Rattle.runner.specs.declared.performed.StepResult.TheVariants as did
use Rattle.runner.specs.Answers.{as_read}
use Rattle.runner.specs.Going.{plan_at}

-- the copy under a mark that a device holds: the least UID, of those given since the plan was made, whose message bears it
abbrev pub copy_under : Plan → Direction → (mark : List ℕ) → Device → Option ℕ
copy_under plan direction mark d = marked_from mark (first_uid plan (target direction)) (box d (target direction))

-- that of a new message
abbrev pub copy_at : Plan → Step → Device → Option ℕ
copy_at plan (step.New direction uid flags mark) d = copy_under plan direction mark d
copy_at plan (step.Gone direction far near) d = None
copy_at plan (step.Flags direction far near set cleared) d = None
copy_at plan (step.Expunge side uid) d = None

-- the UID that is reported as that of a copy that was found
abbrev pub reported_found : StepResult → Option ℕ
reported_found (did.Made copy) = None
reported_found (did.Found copy) = Some copy
reported_found did.Void = None
reported_found did.Plain = None

-- a copy is reported as found exactly if it stood there, and has the UID that it had
abbrev pub IsFoundSo : Plan → Device → Performed → Type 0
IsFoundSo plan d p = reported_found p.result ≡ copy_at plan p.step d

-- none is reported as found
abbrev pub IsNew : Performed → Type 0
IsNew p = reported_found p.result ≡ None

-- The first of the steps may have been done when the pass began. Those after it were not.
abbrev pub AreFoundSo : Plan → Device → List Performed → Type 0
AreFoundSo plan d [] = Unit {0}
AreFoundSo plan d (p ∷ performed) = IsFoundSo plan d p × All IsNew performed

-- what a pass reports as found, by what was read and the device when it began: nothing, where it made the plan itself
abbrev pub FindsBy : Option Opened → Device → Pass → Type 0
FindsBy opened d Already = Unit {0}
FindsBy opened d (Ran performed unfit) = All IsNew performed.items
FindsBy opened d (Finished performed) = AreFoundSo (plan_at opened) d performed.items

-- ---- whatever others add meanwhile

-- under a mark that nobody else writes both devices hold the same copies
abbrev pub FindsSame : (ours : List ℕ → Bool) → (d d' : Device) → Type 0
FindsSame ours d d' = (mark : List ℕ) (from : ℕ) (side : Side) → ours mark ≡ true → marked_from mark from (box d' side) ≡ marked_from mark from (box d side)

-- so much is so of each device that holds the same copies as this one
abbrev pub OfSame : (ours : List ℕ → Bool) → Device → (Device → Type 0) → Type 0
OfSame ours now P = (d : Device) → FindsSame ours d now → P d

-- ---- by the files

-- what a pass reports as found that began with this device, by what its files held
abbrev pub FindsAt : (ours : List ℕ → Bool) → Device → Pass → Type 0
FindsAt ours began pass = (s : SyncState) (p : Pending) → Holds began.files s p → OfSame ours began (λ d. FindsBy (as_read s p) d pass)
