-- Why a call of the book stops, and what an answer says of stops. It is said of every shelf, whether it behaves as specified or not.
use Rattle.std.specs.Prelude.{◌≡◌, ◌<◌, ◌⊎◌, ℕ, Bool, true, false, not, Result, Ok, Err}
use Rattle.device.specs.Calls.{Seen}
use Rattle.outside.specs.declared.fault.OutsideFault.{OutsideFault}
use Rattle.outside.specs.declared.fault.OutsideFault.TheVariants.{Stopped, Refused, Box, BadState, BadJournal, NoMemory}

-- the book between two calls: whether it goes on, and how many calls of its shelf have stopped
pub record Standing : Type 0 where
  pub is_ready : Bool
  pub stops : ℕ

-- over a shelf of which no book is open
abbrev pub standing_at : {Stored : Type 0} → Seen Stored → Standing
standing_at seen = record { is_ready = not seen.is_broken; stops = seen.stops }

-- it had failed before, or a call of its shelf stopped in this one
abbrev pub HasCause : (old new : Standing) → Type 0
HasCause old new = (old.is_ready ≡ false) ⊎ (old.stops < new.stops)

-- A call stops only for such a cause. Where it answers, the book goes on, and no call of its shelf has stopped in it.
abbrev pub StopsFor : {T : Type 0} → (cause : Type 0) → (old new : Standing) → Result T OutsideFault → Type 0
StopsFor cause old new (Ok answer) = (new.is_ready ≡ true) × (new.stops ≡ old.stops)
StopsFor cause old new (Err Stopped) = cause
StopsFor cause old new (Err Refused) = Unit {0}
StopsFor cause old new (Err (Box side number)) = Unit {0}
StopsFor cause old new (Err (BadState line)) = Unit {0}
StopsFor cause old new (Err (BadJournal line)) = Unit {0}
StopsFor cause old new (Err NoMemory) = Unit {0}

-- the same for the cause that every shelf gives
abbrev pub StopsSo : {T : Type 0} → (old new : Standing) → Result T OutsideFault → Type 0
StopsSo old new result = StopsFor (HasCause old new) old new result
