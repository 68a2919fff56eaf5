-- What becomes of a message that is to be copied, by its source.
use Rattle.std.specs.Prelude.{◌≡◌, ◌⊎◌, ℕ, Bool, true, List, None, Some}
use Rattle.mailcore.specs.declared.side.Direction.{Direction}
use Rattle.mailcore.specs.Content.{fit}
use Rattle.mailcore.specs.Operations.{bytes_of}
use Rattle.mailcore.specs.Sides.{source}
use Rattle.outside.specs.Arrivals.{Arrives}
use Rattle.outside.specs.BoxCalls.{IsUnfit}
use Rattle.outside.specs.Devices.{Device, box}
use Rattle.runner.specs.declared.performed.StepResult.{StepResult}
use Rattle.runner.specs.declared.performed.StepResult.TheVariants as did

-- it is there, and fit to be copied
pub record IsFit (direction : Direction) (uid : ℕ) (d : Device) : Type 0 where
  pub bytes : List ℕ
  pub is_there : bytes_of uid (box d (source direction)) ≡ Some bytes
  pub is_fit : fit (source direction) bytes ≡ true

-- void where it is gone or not fit, and else a copy is made
abbrev pub GoesBySource : Direction → (uid : ℕ) → StepResult → Device → Type 0
GoesBySource direction uid did.Void d = (bytes_of uid (box d (source direction)) ≡ None) ⊎ IsUnfit direction uid d
GoesBySource direction uid (did.Made copy) d = IsFit direction uid d
GoesBySource direction uid (did.Found copy) d = ⊥
GoesBySource direction uid did.Plain d = ⊥

-- by what stood there when it was asked for; others may have added messages before
pub record BySource (ours : List ℕ → Bool) (alone : Bool) (direction : Direction) (uid : ℕ) (result : StepResult) (old : Device) : Type 0 where
  pub mid : Device
  pub before : Arrives ours alone old mid
  pub so : GoesBySource direction uid result mid
