-- How a fault of a mailbox is reported by the outside, and why it is reported.
use Rattle.std.specs.Prelude.{◌≡◌, ◌⊎◌, Result, Ok, Err}
use Rattle.mailcore.specs.declared.side.Side.{Side}
use Rattle.mailcore.specs.Mailboxes.{Mailbox}
use Rattle.outside.specs.declared.box_fault.BoxFault.{BoxFault}
use Rattle.outside.specs.declared.box_fault.BoxFault.TheVariants as box
use Rattle.outside.specs.FaultNumbers.{FAR_REFUSED}
use Rattle.outside.specs.declared.fault.OutsideFault.{OutsideFault}
use Rattle.outside.specs.declared.fault.OutsideFault.TheVariants as outside

-- a fault of its own is reported with its side
abbrev pub reported : Side → BoxFault → OutsideFault
reported side box.Stopped = outside.Stopped
reported side box.Refused = outside.Refused
reported side (box.Own number) = outside.Box side number
reported side box.NoMemory = outside.NoMemory

abbrev pub reported_by : {T : Type 0} → Side → Result T BoxFault → Result T OutsideFault
reported_by side (Ok answer) = Ok answer
reported_by side (Err fault) = Err (reported side fault)

-- a call before the steps of a plan: what was refused is a fault of the mailbox
abbrev pub unstepped : {T : Type 0} → Result T BoxFault → Result T BoxFault
unstepped (Ok answer) = Ok answer
unstepped (Err box.Stopped) = Err box.Stopped
unstepped (Err box.Refused) = Err (box.Own FAR_REFUSED)
unstepped (Err (box.Own number)) = Err (box.Own number)
unstepped (Err box.NoMemory) = Err box.NoMemory

-- which has the reason of the refusal
abbrev pub OrRefusal : (because : BoxFault → Mailbox → Type 0) → BoxFault → Mailbox → Type 0
OrRefusal because fault b = because fault b ⊎ ((fault ≡ box.Own FAR_REFUSED) × because box.Refused b)

-- A call of the mailbox of this side reports this fault. A stop has this cause. A refusal, and a fault of its own, which names this side,
-- are reported of the mailbox as it is now, for its reason, where the device below has behaved as specified.
abbrev pub IsReported : (honest cause : Type 0) → Side → (because : BoxFault → Mailbox → Type 0) → (now : Mailbox) → OutsideFault → Type 0
IsReported honest cause side because now outside.Stopped = cause
IsReported honest cause side because now outside.Refused = honest → because box.Refused now
IsReported honest cause side because now (outside.Box named number) = (named ≡ side) × (honest → because (box.Own number) now)
IsReported honest cause side because now (outside.BadState line) = ⊥
IsReported honest cause side because now (outside.BadJournal line) = ⊥
IsReported honest cause side because now outside.NoMemory = Unit {0}
