-- A mailbox in memory as the clauses of its calls name it.
use Rattle.std.specs.Prelude.{◌≡◌, true, false, Result}
use Rattle.device.specs.Calls.{Effect}
use Rattle.mailcore.specs.declared.side.Side.{Side}
use Rattle.mailcore.specs.Mailboxes.{Mailbox}
use Rattle.outside.specs.declared.box_fault.BoxFault.{BoxFault}
use Rattle.outside.specs.BoxArrivals.{Arrives}
use Rattle.outside.specs.MailboxCalls.{Call, Seen}
use Rattle.mem_mailbox.specs.declared.mem_mailbox.MemMailbox.{MemMailbox}
use Rattle.mem_mailbox.specs.BoxConditions.{Counts}
use Rattle.mem_mailbox.specs.Views.{every, near_of}

abbrev pub seen_at : Mailbox → Counts → Seen
seen_at b c = record { stored = b; is_broken = c.is_broken; stops = c.stops }

-- its messages and what waits, whether a call has stopped, and how many have
abbrev pub seen_of : {K : Type 0} → MemMailbox K → Seen
seen_of m = seen_at (near_of m.store m.waiting.items) m.condition

-- a call of a mailbox in memory: nobody else acts, and it behaves as specified where none was refused
abbrev pub Calls : {T : Type 0} → Side → (because : BoxFault → Mailbox → Type 0) → (does : T → Effect Mailbox) → (part : Effect Mailbox)
    → (b b' : Mailbox) → (c c' : Counts) → Result T BoxFault → Type 0
Calls side because does part b b' c c' result = Call (c'.has_refused ≡ false) ⊥ (Arrives side every true) because does part (seen_at b c) (seen_at b' c') result
