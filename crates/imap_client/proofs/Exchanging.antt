-- One command and its answer.
use Rattle.std.proofs.Common.{◌≡◌, ℕ, Bool, false, List, refl, ◌∙◌, subst, Result, Ok, Err, OnOk}
use Rattle.imap_commands.specs.declared.command.Command.{Command}
use Rattle.imap_replies.specs.declared.reply.Reply.{Reply}
use Rattle.imap_replies.specs.declared.word.Status.{Status}
use Rattle.imap_replies.specs.declared.word.Status.TheVariants as statuses
use Rattle.imap_session.specs.Servers.{Server}
use Rattle.imap_link.specs.declared.fault.FarFault.{FarFault}
use Rattle.imap_link.specs.declared.fault.FarFault.TheVariants as faults
use Rattle.imap_link.specs.Faults.{IsHearing}
use Rattle.imap_link.specs.Outcomes.{Outcome, Never}
use Rattle.imap_link.specs.Exchanges.{Performs, Replied}
use Rattle.imap_client.specs.Exchanged.{Exchanged}
use Rattle.imap_client.specs.States.{State, SendStops, SentSo, Judged, Asked, AskedSo}

abbrev pub state_at : (is_ready : Bool) (tags stops : ℕ) (heard : List ℕ) → State
state_at is_ready tags stops heard = record { is_ready = is_ready; tags = tags; stops = stops; heard = heard }

-- where hearing failed
pub sent_err : (T : Type 0) (tag : List ℕ) (old new : State) (f : FarFault) → IsHearing f → new.is_ready ≡ false → (f ≡ faults.Stopped → SendStops tag old new) → SentSo {T = T} tag old new (Err f)
sent_err T tag old new faults.Stopped h e s = (e, s refl)
sent_err T tag old new faults.Refused h e s = absurd h
sent_err T tag old new faults.Protocol h e s = e
sent_err T tag old new faults.TooLong h e s = e
sent_err T tag old new faults.NoRev2 h e s = absurd h
sent_err T tag old new faults.ReadOnly h e s = absurd h
sent_err T tag old new faults.NoMemory h e s = e

pub exchanged_err : (T : List Reply → Type 0) (c : Command) (does : Status → Server → Server → Type 0) (f : FarFault) (read : List ℕ) (old new : Server) → Outcome {T = Status} does Never (Performs c) (Err f) old new
    → Exchanged c T (Err f) read old new
exchanged_err T c does faults.Stopped heard old new h = h
exchanged_err T c does faults.Refused heard old new h = absurd h
exchanged_err T c does faults.Protocol heard old new h = absurd h
exchanged_err T c does faults.TooLong heard old new h = h
exchanged_err T c does faults.NoRev2 heard old new h = h
exchanged_err T c does faults.ReadOnly heard old new h = h
exchanged_err T c does faults.NoMemory heard old new h = h

-- where a reply was heard, by its status
module _ (T : List Reply → Type 0) (c : Command) (status : Status) (read : List ℕ) (old new : Server) (h : Replied c status T read old new) where
  with_status : (now : Status) → status ≡ now → Replied c now T read old new
  with_status now e = subst (λ (s : Status). Replied c s T read old new) e h

  pub exchanged_of : (ready : Bool) (result : Result (Unit {0}) FarFault) → Judged status ready result → Exchanged c T result read old new
  exchanged_of ready (Ok x) j = with_status statuses.Ok j.0
  exchanged_of ready (Err faults.Stopped) j = absurd j
  exchanged_of ready (Err faults.Refused) j = record { bytes = read; replied = with_status statuses.No j.0 }
  exchanged_of ready (Err faults.Protocol) j = record { bytes = read; replied = with_status statuses.Bad j.0 }
  exchanged_of ready (Err faults.TooLong) j = absurd j
  exchanged_of ready (Err faults.NoRev2) j = absurd j
  exchanged_of ready (Err faults.ReadOnly) j = absurd j
  exchanged_of ready (Err faults.NoMemory) j = absurd j

-- where it was OK
pub judged_ok : (status : Status) (ready : Bool) (result : Result (Unit {0}) FarFault) → Judged status ready result → (P : Status → Type 0) → P status → OnOk result (P statuses.Ok)
judged_ok status ready (Ok x) j P p = subst P j.0 p
judged_ok status ready (Err f) j P p = tt

pub on_ok_always : {T : Type 0} {P : Type 0} (result : Result T FarFault) → P → OnOk result P
on_ok_always (Ok x) p = p
on_ok_always (Err f) p = tt

-- ---- the first part of a call

pub asked_err : (T U : Type 0) (old new : State) (f : FarFault) → AskedSo {T = T} old new (Err f) → AskedSo {T = U} old new (Err f)
asked_err T U old new faults.Stopped h = h
asked_err T U old new faults.Refused h = h
asked_err T U old new faults.Protocol h = h
asked_err T U old new faults.TooLong h = h
asked_err T U old new faults.NoRev2 h = h
asked_err T U old new faults.ReadOnly h = h
asked_err T U old new faults.NoMemory h = h

-- what the status makes of it
pub judged_asked : (status : Status) (old mid new : State) (result : Result (Unit {0}) FarFault) → Asked old mid → new.stops ≡ mid.stops → new.tags ≡ mid.tags → Judged status new.is_ready result → AskedSo old new result
judged_asked status old mid new (Ok x) a s t j = record { was_ready = a.was_ready; begun = j.1; stops = s ∙ a.stops; tags = t ∙ a.tags }
judged_asked status old mid new (Err faults.Stopped) a s t j = absurd j
judged_asked status old mid new (Err faults.Refused) a s t j = record { was_ready = a.was_ready; is_ready = j.1; stops = s ∙ a.stops; tags = t ∙ a.tags }
judged_asked status old mid new (Err faults.Protocol) a s t j = record { was_ready = a.was_ready; is_ready = j.1 }
judged_asked status old mid new (Err faults.TooLong) a s t j = absurd j
judged_asked status old mid new (Err faults.NoRev2) a s t j = absurd j
judged_asked status old mid new (Err faults.ReadOnly) a s t j = absurd j
judged_asked status old mid new (Err faults.NoMemory) a s t j = absurd j
