-- A session ends at the server (RFC 9051, section 6.1.3).
use Rattle.std.specs.Prelude.{◌≡◌, ℕ, true, List, Result, Ok, Err}
use Rattle.imap_session.specs.Servers.{Server, LoggedOut}
use Rattle.imap_link.specs.declared.fault.FarFault.{FarFault}
use Rattle.imap_link.specs.declared.fault.FarFault.TheVariants.{Stopped, Refused, Protocol, TooLong, NoRev2, ReadOnly, NoMemory}
use Rattle.imap_client.specs.States.{State, StopCause, SendStops}

-- nothing more is read on the connection
abbrev pub Leaves : Server → Server → Type 0
Leaves old new = new ≡ record old { condition = LoggedOut }

-- how sending the command of this tag ends
abbrev pub LeftSo : {T : Type 0} → (tag : List ℕ) → State → State → Result T FarFault → Type 0
LeftSo tag old new (Ok answer) = new.stops ≡ old.stops
LeftSo tag old new (Err Stopped) = SendStops tag old new
LeftSo tag old new (Err Refused) = Unit {0}
LeftSo tag old new (Err Protocol) = Unit {0}
LeftSo tag old new (Err TooLong) = Unit {0}
LeftSo tag old new (Err NoRev2) = ⊥
LeftSo tag old new (Err ReadOnly) = ⊥
LeftSo tag old new (Err NoMemory) = Unit {0}

-- how the call ends
abbrev pub LeavesSo : {T : Type 0} → State → State → Result T FarFault → Type 0
LeavesSo old new (Ok answer) = (old.is_ready ≡ true) × (new.stops ≡ old.stops)
LeavesSo old new (Err Stopped) = StopCause old new
LeavesSo old new (Err Refused) = old.is_ready ≡ true
LeavesSo old new (Err Protocol) = old.is_ready ≡ true
LeavesSo old new (Err TooLong) = old.is_ready ≡ true
LeavesSo old new (Err NoRev2) = ⊥
LeavesSo old new (Err ReadOnly) = ⊥
LeavesSo old new (Err NoMemory) = old.is_ready ≡ true
