-- How a call ends.
use Rattle.std.specs.Prelude.{Result, Ok, Err}
use Rattle.imap_session.specs.Servers.{Server}
use Rattle.imap_session.specs.Ends.{MayHave}
use Rattle.imap_link.specs.declared.fault.FarFault.{FarFault}
use Rattle.imap_link.specs.declared.fault.FarFault.TheVariants.{Stopped, Refused, Protocol, TooLong, NoRev2, ReadOnly, NoMemory}

-- Done, with its answer; refused, for a reason that the server has; stopped, with or without its effect. No other fault
-- comes from an honest server.
abbrev pub Outcome : {T : Type 0} → (does : T → Server → Server → Type 0) → (refuses effect : Server → Server → Type 0) → Result T FarFault → Server → Server → Type 0
Outcome does refuses effect (Ok answer) old new = does answer old new
Outcome does refuses effect (Err Stopped) old new = MayHave effect old new
Outcome does refuses effect (Err Refused) old new = refuses old new
Outcome does refuses effect (Err Protocol) old new = ⊥
Outcome does refuses effect (Err TooLong) old new = ⊥
Outcome does refuses effect (Err NoRev2) old new = ⊥
Outcome does refuses effect (Err ReadOnly) old new = ⊥
Outcome does refuses effect (Err NoMemory) old new = MayHave effect old new

-- never refused
abbrev pub Never : Server → Server → Type 0
Never old new = ⊥
