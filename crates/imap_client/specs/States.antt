-- A session as the clauses of its calls see it, beside the server.
use Rattle.std.specs.Prelude.{◌≡◌, ◌<◌, ◌≤◌, ◌⊎◌, ℕ, ◌+◌, Bool, true, false, List, Result, Ok, Err}
use Rattle.imap_replies.specs.declared.word.Status.{Status}
use Rattle.imap_replies.specs.declared.word.Status.TheVariants as statuses
use Rattle.imap_link.specs.declared.fault.FarFault.{FarFault}
use Rattle.imap_link.specs.declared.fault.FarFault.TheVariants.{Stopped, Refused, Protocol, TooLong, NoRev2, ReadOnly, NoMemory}
use Rattle.imap_link.specs.Buffers.{SaysBye}
use Rattle.imap_client.specs.Tags.{tag_text, LAST_TAG}

-- whether it goes on, how many tags were used on its connection, how often its link was stopped, and what was read of the
-- replies to its last command
pub record State : Type 0 where
  pub is_ready : Bool
  pub tags : ℕ
  pub stops : ℕ
  pub heard : List ℕ

-- why a call stops: the session had failed before; or a call of the link was stopped, or met the end of the bytes; or
-- the server said `* BYE`; or the tags are used up
pub data StopCause (old new : State) : Type 0 where
  Failed : old.is_ready ≡ false → StopCause old new
  Broken : old.stops < new.stops → StopCause old new
  Bye : SaysBye (tag_text new.tags) new.heard → StopCause old new
  UsedUp : old.is_ready ≡ true → new.tags ≡ LAST_TAG → StopCause old new

-- a new connection, with this count of stops
pub record Opened (stops : ℕ) (new : State) : Type 0 where
  pub is_ready : new.is_ready ≡ true
  pub tags : new.tags ≡ 0
  pub same : new.stops ≡ stops

-- the session goes on; so many commands were sent in the call
pub record Goes (commands : ℕ) (old new : State) : Type 0 where
  pub was_ready : old.is_ready ≡ true
  pub is_ready : new.is_ready ≡ true
  pub stops : new.stops ≡ old.stops
  pub tags : new.tags ≡ old.tags + commands

-- the same, of at most so many commands, of which the last was refused
pub record GoesRefused (commands : ℕ) (old new : State) : Type 0 where
  pub was_ready : old.is_ready ≡ true
  pub is_ready : new.is_ready ≡ true
  pub stops : new.stops ≡ old.stops
  pub some : old.tags < new.tags
  pub most : new.tags ≤ old.tags + commands

pub record Halts (old new : State) : Type 0 where
  pub is_ready : new.is_ready ≡ false
  pub cause : StopCause old new

-- the session has failed, for another reason than a stop
pub record Fails (old new : State) : Type 0 where
  pub was_ready : old.is_ready ≡ true
  pub is_ready : new.is_ready ≡ false

-- how a call of so many commands ends
abbrev pub EndsSo : {T : Type 0} → (commands : ℕ) → State → State → Result T FarFault → Type 0
EndsSo commands old new (Ok answer) = Goes commands old new
EndsSo commands old new (Err Stopped) = Halts old new
EndsSo commands old new (Err Refused) = GoesRefused commands old new
EndsSo commands old new (Err Protocol) = Fails old new
EndsSo commands old new (Err TooLong) = Fails old new
EndsSo commands old new (Err NoRev2) = Fails old new
EndsSo commands old new (Err ReadOnly) = GoesRefused commands old new
EndsSo commands old new (Err NoMemory) = Fails old new

-- ---- one command of a call, in which the session counts as failed

-- why sending a command stops
abbrev pub SendStops : (tag : List ℕ) → State → State → Type 0
SendStops tag old new = (old.stops < new.stops) ⊎ SaysBye tag new.heard

-- the command of this tag was answered, and its answer was read; or it was refused, and the session goes on
abbrev pub SentSo : {T : Type 0} → (tag : List ℕ) → State → State → Result T FarFault → Type 0
SentSo tag old new (Ok answer) = (new.is_ready ≡ false) × (new.stops ≡ old.stops)
SentSo tag old new (Err Stopped) = (new.is_ready ≡ false) × SendStops tag old new
SentSo tag old new (Err Refused) = (new.is_ready ≡ true) × (new.stops ≡ old.stops)
SentSo tag old new (Err Protocol) = new.is_ready ≡ false
SentSo tag old new (Err TooLong) = new.is_ready ≡ false
SentSo tag old new (Err NoRev2) = ⊥
SentSo tag old new (Err ReadOnly) = ⊥
SentSo tag old new (Err NoMemory) = new.is_ready ≡ false

-- what a status makes of an answer
abbrev pub Judged : Status → (is_ready : Bool) → Result (Unit {0}) FarFault → Type 0
Judged status is_ready (Ok _) = (status ≡ statuses.Ok) × (is_ready ≡ false)
Judged status is_ready (Err Stopped) = ⊥
Judged status is_ready (Err Refused) = (status ≡ statuses.No) × (is_ready ≡ true)
Judged status is_ready (Err Protocol) = (status ≡ statuses.Bad) × (is_ready ≡ false)
Judged status is_ready (Err TooLong) = ⊥
Judged status is_ready (Err NoRev2) = ⊥
Judged status is_ready (Err ReadOnly) = ⊥
Judged status is_ready (Err NoMemory) = ⊥

-- the same with the next tag, which may be used up
abbrev pub ExchangedSo : {T : Type 0} → State → State → Result T FarFault → Type 0
ExchangedSo old new (Ok answer) = (new.is_ready ≡ false) × (new.stops ≡ old.stops) × (new.tags ≡ old.tags + 1)
ExchangedSo old new (Err Stopped) = (new.is_ready ≡ false) × ((new.tags ≡ LAST_TAG) ⊎ SendStops (tag_text new.tags) old new)
ExchangedSo old new (Err Refused) = (new.is_ready ≡ true) × (new.stops ≡ old.stops) × (new.tags ≡ old.tags + 1)
ExchangedSo old new (Err Protocol) = new.is_ready ≡ false
ExchangedSo old new (Err TooLong) = new.is_ready ≡ false
ExchangedSo old new (Err NoRev2) = ⊥
ExchangedSo old new (Err ReadOnly) = ⊥
ExchangedSo old new (Err NoMemory) = new.is_ready ≡ false

-- ---- the first part of a call

-- the command was answered, and the call goes on
pub record Asked (old new : State) : Type 0 where
  pub was_ready : old.is_ready ≡ true
  pub begun : new.is_ready ≡ false
  pub stops : new.stops ≡ old.stops
  pub tags : new.tags ≡ old.tags + 1

abbrev pub AskedSo : {T : Type 0} → State → State → Result T FarFault → Type 0
AskedSo old new (Ok answer) = Asked old new
AskedSo old new (Err Stopped) = Halts old new
AskedSo old new (Err Refused) = Goes 1 old new
AskedSo old new (Err Protocol) = Fails old new
AskedSo old new (Err TooLong) = Fails old new
AskedSo old new (Err NoRev2) = ⊥
AskedSo old new (Err ReadOnly) = ⊥
AskedSo old new (Err NoMemory) = Fails old new
