-- Calls that read the selected mailbox and change nothing.
use Rattle.std.specs.Prelude.{◌≡◌, Option, None, Some, Result, Ok, Err}
use Rattle.imap_session.specs.Servers.{Server}
use Rattle.imap_link.specs.declared.fault.FarFault.{FarFault}
use Rattle.imap_link.specs.declared.fault.FarFault.TheVariants.{Stopped, Refused, Protocol, TooLong, NoRev2, ReadOnly, NoMemory}

-- the answer is so, and nothing changed
abbrev pub Reports : {T : Type 0} → (T → Type 0) → T → Server → Server → Type 0
Reports P answer old new = P answer × (new ≡ old)

-- replies read: what they say, or `Protocol` where they say nothing that the call can take
abbrev pub ReadsAs : {T X : Type 0} → (view : T → X) → Result T FarFault → Option X → Type 0
ReadsAs view (Ok answer) x = x ≡ Some (view answer)
ReadsAs view (Err Stopped) x = ⊥
ReadsAs view (Err Refused) x = ⊥
ReadsAs view (Err Protocol) x = x ≡ None
ReadsAs view (Err TooLong) x = ⊥
ReadsAs view (Err NoRev2) x = ⊥
ReadsAs view (Err ReadOnly) x = ⊥
ReadsAs view (Err NoMemory) x = Unit {0}

-- why replies are not read
abbrev pub IsReadFault : FarFault → Type 0
IsReadFault Stopped = ⊥
IsReadFault Refused = ⊥
IsReadFault Protocol = Unit {0}
IsReadFault TooLong = ⊥
IsReadFault NoRev2 = ⊥
IsReadFault ReadOnly = ⊥
IsReadFault NoMemory = Unit {0}
