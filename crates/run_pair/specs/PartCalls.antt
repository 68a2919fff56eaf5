-- What a call of the book does to the files of its shelf.
use Rattle.std.specs.Prelude.{Result, Ok, Err}
use Rattle.device.specs.Calls.{Effect, Leaves, Stays}
use Rattle.outside.specs.declared.fault.OutsideFault.{OutsideFault}
use Rattle.outside.specs.declared.fault.OutsideFault.TheVariants.{Stopped, Refused, Box, BadState, BadJournal, NoMemory}

-- A call that answers has its effect, and one that does not leaves what its fault says. It is said where the shelf behaves as specified.
abbrev pub Part : {D T : Type 0} → (honest : Type 0) → (does : T → Effect D) → (leaves : OutsideFault → Effect D) → D → D → Result T OutsideFault → Type 0
Part honest does leaves old new (Ok answer) = honest → does answer old new
Part honest does leaves old new (Err fault) = honest → leaves fault old new

-- the effect, with some answer
pub record DoesSome {D T : Type 0} (does : T → Effect D) (old new : D) : Type 0 where
  pub answer : T
  pub done : does answer old new

-- a call that stopped or wanted memory has had its effect, or a part of it, or none; another fault changed nothing
abbrev pub LeavesSome : {D T : Type 0} → (does : T → Effect D) → (part : Effect D) → OutsideFault → Effect D
LeavesSome does part Stopped old new = Leaves (DoesSome does) part old new
LeavesSome does part Refused old new = Stays old new
LeavesSome does part (Box side number) old new = Stays old new
LeavesSome does part (BadState line) old new = Stays old new
LeavesSome does part (BadJournal line) old new = Stays old new
LeavesSome does part NoMemory old new = Leaves (DoesSome does) part old new

-- a call that changes them
abbrev pub PartChanges : {D T : Type 0} → (honest : Type 0) → (does : T → Effect D) → (part : Effect D) → D → D → Result T OutsideFault → Type 0
PartChanges honest does part old new result = Part honest does (LeavesSome does part) old new result
