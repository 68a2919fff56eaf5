-- Why a call of the far mailbox stops.
use Rattle.std.specs.Prelude.{◌≡◌, ◌<◌, ◌≤◌, ◌⊎◌, ℕ, true, List, Result, Ok, Err}
use Rattle.imap_link.specs.Buffers.{SaysBye}
use Rattle.imap_link.specs.declared.fault.FarFault.{FarFault}
use Rattle.imap_link.specs.declared.fault.FarFault.TheVariants.{Stopped}
use Rattle.imap_client.specs.States.{State}
use Rattle.imap_client.specs.Tags.{LAST_TAG}

-- the other end has ended the session: the server has said `* BYE`, which stands in the buffer, or the tags are used up
pub data HasEnded (s : State) : Type 0 where
  Bye : (tag : List ℕ) → SaysBye tag s.heard → HasEnded s
  UsedUp : s.tags ≡ LAST_TAG → HasEnded s

-- A call that answers goes on, and no call of the link has stopped in it. One that stops has its cause: a call of the link has stopped
-- in it, or the other end has ended the session.
abbrev pub Ends : {T : Type 0} → State → State → Result T FarFault → Type 0
Ends old new (Ok answer) = (new.is_ready ≡ true) × (new.stops ≡ old.stops)
Ends old new (Err fault) = (fault ≡ Stopped → (old.stops < new.stops) ⊎ HasEnded new) × (old.stops ≤ new.stops)
