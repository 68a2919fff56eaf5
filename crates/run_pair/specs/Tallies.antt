-- What is counted of the calls of an outside.
use Rattle.std.specs.Prelude.{◌≡◌, ◌+◌, ℕ, Bool, true, false, List, [], ◌∷◌, Result, Ok, Err}
use Rattle.outside.specs.declared.fault.OutsideFault.{OutsideFault}
use Rattle.outside.specs.declared.fault.OutsideFault.TheVariants.{Stopped, Refused, Box, BadState, BadJournal, NoMemory}
use Rattle.outside.specs.Calls.{Seen, stops_reported}
use Rattle.mailcore.specs.declared.side.Side.{Side}
use Rattle.outside.specs.Devices.{Device, Named}

-- whether a call has failed since the outside was opened; the faults that were reported, the last first; how many copies were made; which
-- messages were named, the last first; and how the device was each time it was opened again, the last first
pub record Counts : Type 0 where
  pub is_broken : Bool
  pub reported : List OutsideFault
  pub copies : ℕ
  pub named : List Named
  pub reopened : List Device

-- no call was made
abbrev pub untouched : Counts
untouched = record { is_broken = false; reported = []; copies = 0; named = []; reopened = [] }

-- a call has reported this fault
abbrev pub failed : OutsideFault → Counts → Counts
failed fault c = record c { is_broken = true; reported = fault ∷ c.reported }

-- the outside, with this device, is opened again
abbrev pub counted_again : Device → Counts → Counts
counted_again device c = record c { is_broken = false; reopened = device ∷ c.reopened }

-- a call has made so many copies
abbrev pub copied : ℕ → Counts → Counts
copied n c = record c { copies = n + c.copies }

-- a call with this answer has ended
abbrev pub ended : {T : Type 0} → (copies : T → ℕ) → Result T OutsideFault → Counts → Counts
ended copies (Ok answer) c = copied (copies answer) c
ended copies (Err fault) c = failed fault c

-- a call that makes no copy
abbrev pub no_copies : {T : Type 0} → T → ℕ
no_copies answer = 0

-- The messages that are named after a call with this answer, which was to change or to remove a message. It is named, unless the
-- fault says that nothing was changed.
abbrev pub named_by : {T : Type 0} → Named → Result T OutsideFault → List Named → List Named
named_by message (Ok answer) before = message ∷ before
named_by message (Err Stopped) before = message ∷ before
named_by message (Err Refused) before = before
named_by message (Err (Box side number)) before = before
named_by message (Err (BadState line)) before = before
named_by message (Err (BadJournal line)) before = before
named_by message (Err NoMemory) before = message ∷ before

-- a call with this answer has ended, which was to change or to remove this message of the mailbox of this side
abbrev pub ended_naming : {T : Type 0} → Side → (uid : ℕ) → Result T OutsideFault → Counts → Counts
ended_naming side uid answer c = record (ended no_copies answer c) { named = named_by (record { side = side; uid = uid }) answer c.named }

-- What a call with this result has counted, which ends so: the result, and nothing else. Of a broken outside nothing is counted.
pub record Tallied {T : Type 0} (ends : Result T OutsideFault → Counts → Counts) (result : Result T OutsideFault) (old new : Counts) : Type 0 where
  pub counted : old.is_broken ≡ false → new ≡ ends result old
  pub stuck : old.is_broken ≡ true → new ≡ old

-- ---- what an outside shows

-- how many of these faults are stops
abbrev pub stops_in : List OutsideFault → ℕ
stops_in [] = 0
stops_in (fault ∷ faults) = stops_reported fault + stops_in faults

-- an outside with this device
abbrev pub seen_with : Device → Counts → Seen
seen_with device counts = record {
  device = device;
  is_broken = counts.is_broken;
  stops = stops_in counts.reported;
  reported = counts.reported;
  appends = counts.copies;
  reopened = counts.reopened;
}
