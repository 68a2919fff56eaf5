-- A call before the steps of a plan, whose refusal is a fault of the mailbox.
use Rattle.std.proofs.Common.{◌≡◌, inl, inr, refl, sym, subst, ℕ, Result, Ok, Err}
use Rattle.std.specs.Prelude.{IfOk}
use Rattle.device.specs.Calls.{Effect, Follows}
use Rattle.mailcore.specs.declared.side.Side.{Side}
use Rattle.mailcore.specs.Mailboxes.{Mailbox}
use Rattle.outside.specs.declared.box_fault.BoxFault.{BoxFault}
use Rattle.outside.specs.declared.box_fault.BoxFault.TheVariants as boxes
use Rattle.outside.specs.MailboxCalls as calls
use Rattle.outside.specs.MailboxCalls.{Seen}
use Rattle.outside.specs.declared.fault.OutsideFault.{OutsideFault}
use Rattle.outside.specs.Calls.{Call, FromBox, FromOpening}
use Rattle.outside.specs.Calls as outside
use Rattle.outside.specs.Devices.{Device}
use Rattle.run_pair.specs.Faults.{OrRefusal, reported_by, unstepped}

-- ---- in the words of the mailbox

left_so : {others one two : Effect Mailbox} {b b' : Mailbox} → ((m : Mailbox) → one m b' → two m b') → Follows others one b b' → Follows others two b b'
left_so f h = record { mid = h.mid; before = h.before; following = f h.mid h.following }

pub unstepped_call : {T : Type 0} (own ended : Type 0) (others : Effect Mailbox) (because : BoxFault → Mailbox → Type 0) (does : T → Effect Mailbox) (part : Effect Mailbox) (s s' : Seen) (answer : Result T BoxFault)
    → calls.Call own ended others because does part s s' answer → calls.Call own ended others (OrRefusal because) does part s s' (unstepped answer)
unstepped_call own ended others because does part s s' (Ok x) h = h
unstepped_call own ended others because does part s s' (Err boxes.Stopped) h = record { cause = h.cause; no_less = h.no_less; left = h.left }
unstepped_call own ended others because does part s s' (Err boxes.Refused) h = record { cause = λ is. absurd (cc); no_less = h.no_less; left = λ k. left_so (λ m l. (l.0, inr (refl, l.1))) (h.left k) }
unstepped_call own ended others because does part s s' (Err (boxes.Own number)) h = record { cause = λ is. absurd (cc); no_less = h.no_less; left = λ k. left_so (λ m l. (l.0, inl l.1)) (h.left k) }
unstepped_call own ended others because does part s s' (Err boxes.NoMemory) h = record { cause = λ is. absurd (cc); no_less = h.no_less; left = h.left }

-- ---- in those of the outside

restated : {T : Type 0} {honest : Type 0} {others : Effect Device} {copies : T → ℕ} {may may' : OutsideFault → Type 0} {does : T → Effect Device} {leaves : OutsideFault → Effect Device} {old new : outside.Seen} (e : OutsideFault) → may' e
    → Call honest others copies may does leaves old new (Err e) → Call honest others copies may' does leaves old new (Err e)
restated e may' h =
    let c = h.counts in
    record {
      acts = h.acts;
      goes_on = h.goes_on;
      counts = record { reported = may'; noted = c.noted; stopped = c.stopped; appends = c.appends; reopened = c.reopened; stuck = c.stuck };
    }

-- no step was refused
pub opening_call : {T : Type 0} {honest : Type 0} {others : Effect Device} {copies : T → ℕ} {does : T → Effect Device} {leaves : OutsideFault → Effect Device} {old new : outside.Seen} (side : Side) (answer : Result T BoxFault) (result : Result T OutsideFault)
    → result ≡ reported_by side (unstepped answer) → Call honest others copies FromBox does leaves old new result → Call honest others copies FromOpening does leaves old new result
opening_call {T} {honest} {others} {copies} {does} {leaves} {old} {new} side answer result same h =
    subst (λ (r : Result T OutsideFault). Call honest others copies FromOpening does leaves old new r) (sym same)
    (by_answer answer (subst (λ (r : Result T OutsideFault). Call honest others copies FromBox does leaves old new r) same h))
  where
    by_answer : (a : Result T BoxFault) → Call honest others copies FromBox does leaves old new (reported_by side (unstepped a)) → Call honest others copies FromOpening does leaves old new (reported_by side (unstepped a))
    by_answer (Ok x) h = record { acts = h.acts; goes_on = h.goes_on; counts = h.counts }
    by_answer (Err boxes.Stopped) h = restated _ tt h
    by_answer (Err boxes.Refused) h = restated _ tt h
    by_answer (Err (boxes.Own number)) h = restated _ tt h
    by_answer (Err boxes.NoMemory) h = restated _ tt h

-- ---- its answer

pub if_answered : {T : Type 0} (P : T → Type 0) (answer : Result T BoxFault) → IfOk answer P → IfOk (unstepped answer) P
if_answered P (Ok x) h = h
if_answered P (Err boxes.Stopped) h = tt
if_answered P (Err boxes.Refused) h = tt
if_answered P (Err (boxes.Own number)) h = tt
if_answered P (Err boxes.NoMemory) h = tt
