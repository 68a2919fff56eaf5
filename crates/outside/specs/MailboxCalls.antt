-- What a call of a mailbox does, whether it stops or not.
use Rattle.std.specs.Prelude.{◌≡◌, ◌<◌, ◌≤◌, ◌⊎◌, ℕ, false, Result, Ok, Err}
use Rattle.device.specs.Calls.{Seen as DeviceSeen, Effect, Follows, Leaves, Went}
use Rattle.mailcore.specs.Mailboxes.{Mailbox}
use Rattle.outside.specs.declared.box_fault.BoxFault.{BoxFault}
use Rattle.outside.specs.declared.box_fault.BoxFault.TheVariants.{Stopped, Refused, Own, NoMemory}

-- a mailbox as a contract sees it: its messages and what waits, whether a call has failed since it was opened again, and how many calls
-- of the device below have stopped
abbrev pub Seen : Type 0
Seen = DeviceSeen Mailbox

-- ---- what a fault leaves

-- the effect, with some answer
pub record DoesSome {T : Type 0} (does : T → Effect Mailbox) (b b' : Mailbox) : Type 0 where
  pub answer : T
  pub done : does answer b b'

-- a call that stopped or ran out of memory has had its effect, or a part of it, or none; another fault changed nothing, and comes for its
-- reason alone
abbrev pub LeavesBy : {T : Type 0} → (does : T → Effect Mailbox) → (part : Effect Mailbox) → (because : BoxFault → Mailbox → Type 0) → BoxFault → Effect Mailbox
LeavesBy does part because Stopped b b' = Leaves (DoesSome does) part b b'
LeavesBy does part because Refused b b' = (b' ≡ b) × because Refused b
LeavesBy does part because (Own number) b b' = (b' ≡ b) × because (Own number) b
LeavesBy does part because NoMemory b b' = Leaves (DoesSome does) part b b'

-- no other fault than `Stopped` and `NoMemory` comes
abbrev pub Never : BoxFault → Mailbox → Type 0
Never fault b = ⊥

-- `Stopped` or `NoMemory`
abbrev pub IsPlain : BoxFault → Type 0
IsPlain Stopped = Unit {0}
IsPlain Refused = ⊥
IsPlain (Own number) = ⊥
IsPlain NoMemory = Unit {0}

-- ---- calls

-- a call of the device stopped in this call, or the other end has ended the session
abbrev pub HasCause : (ended : Type 0) → Seen → Seen → Type 0
HasCause ended old new = (old.stops < new.stops) ⊎ ended

-- A call that did not answer: a stop has its cause in this very call.
pub record Halts (honest ended is_stop : Type 0) (leaves : Effect Mailbox) (old new : Seen) : Type 0 where
  pub cause : is_stop → HasCause ended old new
  pub no_less : old.stops ≤ new.stops
  pub left : honest → leaves old.stored new.stored

-- Others may act first. A call that answers has its effect, and the mailbox goes on; one that does not leaves what its fault says. The
-- effects are stated where the device below has behaved as specified, the causes always.
abbrev pub Call : {T : Type 0} → (honest ended : Type 0) → (others : Effect Mailbox) → (because : BoxFault → Mailbox → Type 0) → (does : T → Effect Mailbox) → (part : Effect Mailbox)
    → Seen → Seen → Result T BoxFault → Type 0
Call honest ended others because does part old new (Ok answer) = Went honest (Follows others (does answer)) old new
Call honest ended others because does part old new (Err fault) = Halts honest ended (fault ≡ Stopped) (Follows others (LeavesBy does part because fault)) old new
