-- The condition of a mailbox in memory, and how it changes where a call has a fault.
use Rattle.std.specs.Prelude.{◌≡◌, ◌+◌, ℕ, Bool, true, false, Result, Ok, Err}
use Rattle.outside.specs.declared.box_fault.BoxFault.{BoxFault}
use Rattle.outside.specs.declared.box_fault.BoxFault.TheVariants.{Stopped, Refused, Own, NoMemory}

-- whether a call has stopped since the mailbox was opened, how many have, and whether one was ever refused
pub record Counts : Type 0 where
  pub is_broken : Bool
  pub stops : ℕ
  pub has_refused : Bool

-- no call was made
abbrev pub untouched : Counts
untouched = record { is_broken = false; stops = 0; has_refused = false }

-- a call has stopped
abbrev pub stopped : Counts → Counts
stopped c = record c { is_broken = true; stops = c.stops + 1 }

-- a call found no memory
abbrev pub out_of_memory : Counts → Counts
out_of_memory c = record c { is_broken = true }

-- a call has stopped, and reports it
abbrev pub Stops : BoxFault → Counts → Counts → Type 0
Stops fault old new = (fault ≡ Stopped) × (new ≡ stopped old)

-- a call has stopped or was refused, and reports which
abbrev pub Fails : BoxFault → Counts → Counts → Type 0
Fails Stopped old new = new ≡ stopped old
Fails Refused old new = new ≡ record old { has_refused = true }
Fails (Own number) old new = ⊥
Fails NoMemory old new = ⊥

-- a call that has had its effect gives its answer, or stops
abbrev pub Ends : {T : Type 0} → (answer : T) → Result T BoxFault → Counts → Counts → Type 0
Ends answer (Ok given) old new = (given ≡ answer) × (new ≡ old)
Ends answer (Err fault) old new = Stops fault old new
