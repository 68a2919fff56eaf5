-- The device of an outside, by its parts.
use Rattle.std.specs.Prelude.{◌≡◌, true, false, ℕ, Bool, ◌&&◌, List, [], ◌∷◌, Option, None, Some, Result, Ok, Err}
use Rattle.mailcore.specs.declared.side.Side.{Side}
use Rattle.mailcore.specs.declared.side.Side.TheVariants as side
use Rattle.mailcore.specs.Mailboxes.{Mailbox}
use Rattle.book.specs.Shelves.{Files}
use Rattle.outside.specs.declared.box_fault.BoxFault.{BoxFault}
use Rattle.outside.specs.Devices.{Device, Named}
use Rattle.outside.specs.Opened.{Opened}
use Rattle.run_pair.specs.Kept.{Kept}

-- two mailboxes, the files of a shelf, and the messages that calls have named; of a far mailbox nothing waits
abbrev pub device_with : Mailbox → Mailbox → Files → (named : List Named) → Device
device_with far near files named = record { far = far.store; near = near; files = files; named = named }

-- the device with these named messages
abbrev pub with_named : List Named → Device → Device
with_named named d = record d { named = named }

-- the device with another mailbox on one side
abbrev pub put : Side → Mailbox → Device → Device
put side.Far b d = record d { far = b.store }
put side.Near b d = record d { near = b }

-- a mark that is the run's at both sides
abbrev pub both : (ours ours' : List ℕ → Bool) → List ℕ → Bool
both ours ours' mark = ours mark && ours' mark

-- what is none of these marks is none of those
abbrev pub IsLess : (ours ours' : List ℕ → Bool) → Type 0
IsLess ours ours' = (mark : List ℕ) → ours mark ≡ false → ours' mark ≡ false

-- the UIDVALIDITYs that a mailbox has answered, the last first, after it was opened with this answer
abbrev pub validities_after : Result ℕ BoxFault → (before : List ℕ) → List ℕ
validities_after (Ok validity) before = validity ∷ before
validities_after (Err fault) before = before

-- the last UIDVALIDITY that a mailbox has answered, if it is open
abbrev pub answered : (is_open : Bool) → (validities : List ℕ) → Option ℕ
answered false validities = None
answered true [] = None
answered true (validity ∷ earlier) = Some validity

-- what was read of the shelf, which UIDVALIDITYs the open boxes have answered, and which devices were listed
abbrev pub opened_with : (far near : Option ℕ) → (listed : List Device) → Option Kept → Option Opened
opened_with far near listed None = None
opened_with far near listed (Some k) = Some (record { state = k.state; pending = k.pending; far = far; near = near; listed = listed })
