-- How calls of the far box end, as far as stops go.
use Rattle.std.proofs.Common.{◌≡◌, ◌<◌, ◌≤◌, ◌⊎◌, inl, inr, sym, ap, subst, ◌∙◌, ℕ, true, List, Result, Ok, Err}
use Rattle.std.proofs.lemmas.Bool.{false≢true}
use Rattle.imap_link.specs.declared.fault.FarFault.{FarFault}
use Rattle.imap_link.specs.declared.fault.FarFault.TheVariants as far
use Rattle.imap_client.specs.States.{State, StopCause, EndsSo, SendStops, Failed, Broken, Bye as SaidBye, UsedUp as AreUsedUp}
use Rattle.imap_client.specs.Tags.{tag_text}
use Rattle.mail_sides.specs.FarStops.{Ends, HasEnded, Bye, UsedUp}

cause_of : (old new : State) → old.is_ready ≡ true → StopCause old new → (old.stops < new.stops) ⊎ HasEnded new
cause_of old new ready (Failed h) = absurd (false≢true (sym h ∙ ready))
cause_of old new ready (Broken h) = inl h
cause_of old new ready (SaidBye h) = inr (Bye (tag_text new.tags) h)
cause_of old new ready (AreUsedUp was h) = inr (UsedUp h)

-- one call of a session that goes on
pub ends_of : {T : Type 0} (commands : ℕ) (old new : State) (r : Result T FarFault) → old.is_ready ≡ true → old.stops ≤ new.stops → EndsSo commands old new r → Ends old new r
ends_of commands old new (Ok x) ready counts e = (e.is_ready, e.stops)
ends_of commands old new (Err far.Stopped) ready counts e = (λ is. cause_of old new ready e.cause, counts)
ends_of commands old new (Err far.Refused) ready counts e = (λ is. absurd cc, counts)
ends_of commands old new (Err far.Protocol) ready counts e = (λ is. absurd cc, counts)
ends_of commands old new (Err far.TooLong) ready counts e = (λ is. absurd cc, counts)
ends_of commands old new (Err far.NoRev2) ready counts e = (λ is. absurd cc, counts)
ends_of commands old new (Err far.ReadOnly) ready counts e = (λ is. absurd cc, counts)
ends_of commands old new (Err far.NoMemory) ready counts e = (λ is. absurd cc, counts)

sent_cause : (tag : List ℕ) (old new : State) → SendStops tag old new → (old.stops < new.stops) ⊎ HasEnded new
sent_cause tag old new (inl rose) = inl rose
sent_cause tag old new (inr bye) = inr (Bye tag bye)

abbrev failed_with : FarFault → Result (Unit {0}) FarFault
failed_with e = Err e

-- a new connection that is not made
pub ends_unmade : (T : Type 0) (old new : State) (e : FarFault) → old.stops ≤ new.stops → (failed_with e ≡ Err far.Stopped → SendStops (tag_text 1) old new) → Ends {T = T} old new (Err e)
ends_unmade T old new e counts stopped = (λ is. sent_cause (tag_text 1) old new (stopped (ap failed_with is)), counts)

-- one call after another
pub ends_after : {T : Type 0} (old mid new : State) (r : Result T FarFault) → mid.stops ≡ old.stops → Ends mid new r → Ends old new r
ends_after old mid new (Ok x) same ends = (ends.0, ends.1 ∙ same)
ends_after old mid new (Err e) same ends = (
  λ is. subst (λ (n : ℕ). (n < new.stops) ⊎ HasEnded new) same (ends.0 is),
  subst (λ (n : ℕ). n ≤ new.stops) same ends.1,
)

-- the same of a fault, whatever is handed on
pub ends_failed : (T U : Type 0) (commands : ℕ) (old new : State) (e : FarFault) → old.is_ready ≡ true → old.stops ≤ new.stops → EndsSo {T = T} commands old new (Err e) → Ends {T = U} old new (Err e)
ends_failed T U commands old new e ready counts ends = let failed : Result T FarFault = Err e in ends_of commands old new failed ready counts ends
