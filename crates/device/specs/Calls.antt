-- What a call of a device does to what it stores, whether it stops or not. A device is what is called and may stop: a folder, a
-- shelf, a mailbox over a connection, or several of these as one.
use Rattle.std.specs.Prelude.{◌≡◌, ◌<◌, ◌≤◌, ◌⊎◌, ℕ, Bool, true, false, Result, Ok, Err}
use Rattle.device.specs.declared.DeviceFault.{DeviceFault}
use Rattle.device.specs.declared.DeviceFault.TheVariants.{Stopped}

-- a device as a contract sees it: what it stores, whether a call has stopped since it was opened, and how many have
pub record Seen (Stored : Type 0) : Type 0 where
  pub stored : Stored
  pub is_broken : Bool
  pub stops : ℕ

-- what a call does, or may leave undone: it relates what is stored before and after
abbrev pub Effect : Type 0 → Type 1
Effect Stored = Stored → Stored → Type 0

-- ---- others

-- What others do to what is stored before a call has its effect: nothing, or something of this kind. People file mail and other
-- programs deliver it while a run is at work. A device where that may happen says `Between` with what they may do, and what is
-- proved above it holds whatever they did. A folder and a shelf say `Nobody`.
pub data Others (Stored : Type 0) : Type 1 where
  Nobody : Others Stored
  Between : Effect Stored → Others Stored

-- others act, and then the call has its effect
pub record Follows {Stored : Type 0} (others own : Effect Stored) (old new : Stored) : Type 0 where
  pub mid : Stored
  pub before : others old mid
  pub following : own mid new

-- an effect after what others did
abbrev pub among : {Stored : Type 0} → Others Stored → Effect Stored → Effect Stored
among Nobody own = own
among (Between others) own = Follows others own

-- ---- what a call leaves

-- a call that answered: the device had not stopped, and where it is honest the effect is there
pub record Went {Stored : Type 0} (honest : Type 0) (does : Effect Stored) (old new : Seen Stored) : Type 0 where
  pub was_whole : old.is_broken ≡ false
  pub is_whole : new.is_broken ≡ false
  pub stops : new.stops ≡ old.stops
  pub effect : honest → does old.stored new.stored

-- a call that ended with a fault, which is a stop or not: from then on the device is broken; one that was broken before stops,
-- and is as it was
pub record Halted {Stored : Type 0} (honest is_stop : Type 0) (leaves : Effect Stored) (old new : Seen Stored) : Type 0 where
  pub is_broken : new.is_broken ≡ true
  pub counted : is_stop → (old.is_broken ≡ true) ⊎ (old.stops < new.stops)
  pub no_less : old.stops ≤ new.stops
  pub stuck : old.is_broken ≡ true → is_stop × (new ≡ old)
  pub left : honest → leaves old.stored new.stored

-- a call of any device: what it does by its answer, and what it leaves by its fault
abbrev pub Acts : {Stored T Fault : Type 0} → (honest : Type 0) → (is_stop : Fault → Type 0) → Others Stored
    → (does : T → Effect Stored) → (leaves : Fault → Effect Stored) → Seen Stored → Seen Stored → Result T Fault → Type 0
Acts honest is_stop others does leaves old new (Ok answer) = Went honest (among others (does answer)) old new
Acts honest is_stop others does leaves old new (Err fault) = Halted honest (is_stop fault) (among others (leaves fault)) old new

-- without its effect, with it, or with a part of it
abbrev pub Leaves : {Stored : Type 0} → (does part : Effect Stored) → Effect Stored
Leaves does part old new = (new ≡ old) ⊎ (does old new ⊎ part old new)

-- nothing is changed
abbrev pub Stays : {Stored : Type 0} → Effect Stored
Stays old new = new ≡ old

-- nothing is changed, and the answer is so
abbrev pub Answers : {Stored T : Type 0} → (states : T → Stored → Type 0) → T → Effect Stored
Answers states answer old new = (new ≡ old) × states answer old

-- there are no parts of this call
abbrev pub Nothing : {Stored : Type 0} → Effect Stored
Nothing old new = ⊥

-- ---- a folder, a shelf

-- which of its faults is a stop
abbrev pub IsStop : DeviceFault → Type 0
IsStop fault = fault ≡ Stopped

-- a call: with its effect where it is Ok, else without it, or with it, or with a part of it
abbrev pub Call : {Stored T : Type 0} → (honest : Type 0) → (does part : Effect Stored) → Seen Stored → Seen Stored → Result T DeviceFault → Type 0
Call honest does part = Acts honest IsStop Nobody (λ answer. does) (λ fault. Leaves does part)

-- a call that changes nothing and answers what is so
abbrev pub Read : {Stored T : Type 0} → (honest : Type 0) → (states : T → Stored → Type 0) → Seen Stored → Seen Stored → Result T DeviceFault → Type 0
Read honest states = Acts honest IsStop Nobody (Answers states) (λ fault. Stays)

-- a call that changes nothing and answers nothing
abbrev pub Rest : {Stored T : Type 0} → (honest : Type 0) → Seen Stored → Seen Stored → Result T DeviceFault → Type 0
Rest honest = Acts honest IsStop Nobody (λ answer. Stays) (λ fault. Stays)

-- the device is opened again: its calls are answered again, what it stores stays, and how many calls have stopped
abbrev pub Reopens : {Stored : Type 0} → Seen Stored → Seen Stored → Type 0
Reopens old new = new ≡ record old { is_broken = false }
