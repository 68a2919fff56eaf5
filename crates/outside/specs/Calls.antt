-- What a call of the outside does, whether it stops or not, and what it counts.
use Rattle.std.specs.Prelude.{◌≡◌, ◌+◌, if◌then◌else◌, ℕ, Bool, true, false, List, ◌∷◌, ◌++◌, Result, Ok, Err}
use Rattle.device.specs.Calls.{Seen as DeviceSeen, Effect, Between, Acts, Leaves, Stays, Answers}
use Rattle.outside.specs.declared.fault.OutsideFault.{OutsideFault}
use Rattle.outside.specs.declared.fault.OutsideFault.TheVariants.{Stopped, Refused, Box, BadState, BadJournal, NoMemory}
use Rattle.outside.specs.Devices.{Device}
use Rattle.outside.specs.GoingOn.{GoesOn}

-- an outside as a contract sees it: the device, whether a call has failed since it was opened, how many calls have stopped, which
-- faults calls have reported, the last first, how many have made a copy, and how the device was each time the outside was opened again, the
-- last first; no number is the greatest
pub record Seen : Type 0 where
  pub device : Device
  pub is_broken : Bool
  pub stops : ℕ
  pub reported : List OutsideFault
  pub appends : ℕ
  pub reopened : List Device

-- the same as any device is seen
abbrev pub as_device : Seen → DeviceSeen Device
as_device seen = record { stored = seen.device; is_broken = seen.is_broken; stops = seen.stops }

-- which of the faults is a stop
abbrev pub IsStop : OutsideFault → Type 0
IsStop fault = fault ≡ Stopped

-- ---- counts

-- a call that answered has made so many copies
pub record CountsCopies (copies : ℕ) (old new : Seen) : Type 0 where
  pub reported : new.reported ≡ old.reported
  pub appends : new.appends ≡ old.appends + copies
  pub reopened : new.reopened ≡ old.reopened

-- how many stops a fault reports
abbrev pub stops_reported : OutsideFault → ℕ
stops_reported Stopped = 1
stops_reported Refused = 0
stops_reported (Box side number) = 0
stops_reported (BadState line) = 0
stops_reported (BadJournal line) = 0
stops_reported NoMemory = 0

-- A call that ended with a fault, which is one that it may report. It is noted as it is reported, and a stop is counted once, and nothing
-- else is; where the outside was broken nothing is.
pub record CountsFault (may_report : OutsideFault → Type 0) (fault : OutsideFault) (old new : Seen) : Type 0 where
  pub reported : may_report fault
  pub noted : old.is_broken ≡ false → new.reported ≡ fault ∷ old.reported
  pub stopped : old.is_broken ≡ false → new.stops ≡ old.stops + stops_reported fault
  pub appends : new.appends ≡ old.appends
  pub reopened : new.reopened ≡ old.reopened
  pub stuck : old.is_broken ≡ true → new ≡ old

abbrev pub Counts : {T : Type 0} → (copies : T → ℕ) → (may_report : OutsideFault → Type 0) → Seen → Seen → Result T OutsideFault → Type 0
Counts copies may_report old new (Ok answer) = CountsCopies (copies answer) old new
Counts copies may_report old new (Err fault) = CountsFault may_report fault old new

-- ---- which faults a call may report

-- a call of a box
abbrev pub FromBox : OutsideFault → Type 0
FromBox Stopped = Unit {0}
FromBox Refused = Unit {0}
FromBox (Box side number) = Unit {0}
FromBox (BadState line) = ⊥
FromBox (BadJournal line) = ⊥
FromBox NoMemory = Unit {0}

-- a call before the steps of a plan, which opens a box, lists it or admits what waits: what is refused then is a fault of the box
abbrev pub FromOpening : OutsideFault → Type 0
FromOpening Stopped = Unit {0}
FromOpening Refused = ⊥
FromOpening (Box side number) = Unit {0}
FromOpening (BadState line) = ⊥
FromOpening (BadJournal line) = ⊥
FromOpening NoMemory = Unit {0}

-- a call of the book that was read
abbrev pub FromBook : OutsideFault → Type 0
FromBook Stopped = Unit {0}
FromBook Refused = ⊥
FromBook (Box side number) = ⊥
FromBook (BadState line) = ⊥
FromBook (BadJournal line) = ⊥
FromBook NoMemory = Unit {0}

-- the reading of the shelf
abbrev pub FromShelf : OutsideFault → Type 0
FromShelf Stopped = Unit {0}
FromShelf Refused = ⊥
FromShelf (Box side number) = ⊥
FromShelf (BadState line) = Unit {0}
FromShelf (BadJournal line) = Unit {0}
FromShelf NoMemory = Unit {0}

-- ---- calls

-- Others may act first. A call that answers has its effect; one that does not leaves what its fault says, and from then on the
-- outside is broken. Whatever a call does, the device goes on. It is said where server, folder and shelf have behaved as specified; what is
-- counted holds without that.
pub record Call {T : Type 0} (honest : Type 0) (others : Effect Device) (copies : T → ℕ) (may_report : OutsideFault → Type 0)
    (does : T → Effect Device) (leaves : OutsideFault → Effect Device) (old new : Seen) (result : Result T OutsideFault) : Type 0 where
  pub acts : Acts honest IsStop (Between others) does leaves (as_device old) (as_device new) result
  pub goes_on : honest → GoesOn old.device new.device
  pub counts : Counts copies may_report old new result

-- the effect, with some answer
pub record DoesSome {T : Type 0} (does : T → Effect Device) (d d' : Device) : Type 0 where
  pub answer : T
  pub done : does answer d d'

-- a call that stopped or wanted memory has had its effect, or a part of it, or none; another fault changed nothing
abbrev pub LeavesBy : {T : Type 0} → (does : T → Effect Device) → (part : Effect Device) → OutsideFault → Effect Device
LeavesBy does part Stopped d d' = Leaves (DoesSome does) part d d'
LeavesBy does part Refused d d' = Stays d d'
LeavesBy does part (Box side number) d d' = Stays d d'
LeavesBy does part (BadState line) d d' = Stays d d'
LeavesBy does part (BadJournal line) d d' = Stays d d'
LeavesBy does part NoMemory d d' = Leaves (DoesSome does) part d d'

-- a call of a box that changes it
abbrev pub Changes : {T : Type 0} → (honest : Type 0) → (others : Effect Device) → (does : T → Effect Device) → (part : Effect Device) → Seen → Seen → Result T OutsideFault → Type 0
Changes honest others does part old new result = Call honest others (λ _. 0) FromBox does (LeavesBy does part) old new result

-- a call of a box that changes nothing and answers what is so
abbrev pub Reads : {T : Type 0} → (honest : Type 0) → (others : Effect Device) → (states : T → Device → Type 0) → Seen → Seen → Result T OutsideFault → Type 0
Reads honest others states old new result = Call honest others (λ _. 0) FromBox (Answers states) (λ fault. Stays) old new result

-- the same of a call before the steps of a plan
abbrev pub Opens : {T : Type 0} → (honest : Type 0) → (others : Effect Device) → (states : T → Device → Type 0) → Seen → Seen → Result T OutsideFault → Type 0
Opens honest others states old new result = Call honest others (λ _. 0) FromOpening (Answers states) (λ fault. Stays) old new result

-- a call of the book that changes the files
abbrev pub Writes : (honest : Type 0) → (others : Effect Device) → (may_report : OutsideFault → Type 0) → (does part : Effect Device) → Seen → Seen → Result (Unit {0}) OutsideFault → Type 0
Writes honest others may_report does part old new result = Call honest others (λ _. 0) may_report (λ _. does) (LeavesBy {T = Unit {0}} (λ _. does) part) old new result

-- ---- a run that is not to go on

-- the same outside, which was opened again: nothing is changed, and from now on calls are answered
abbrev pub opened_again : Seen → Seen
opened_again old = record old { is_broken = false; reopened = old.device ∷ old.reopened }

-- the same outside after a call that stopped before it had an effect
abbrev pub stopped : Seen → Seen
stopped old = if old.is_broken then old else record old { is_broken = true; stops = old.stops + 1; reported = Stopped ∷ old.reported }

-- ---- what was reported

-- this fault is the last that was reported, and it was reported since
pub record IsLast (fault : OutsideFault) (old new : Seen) : Type 0 where
  pub since : List OutsideFault
  pub now : new.reported ≡ fault ∷ (since ++ old.reported)
