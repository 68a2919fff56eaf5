-- A call of the outside ends: what it reports is what is counted.
use Rattle.std.proofs.Common.{◌≡◌, ◌∙◌, inl, inr, ap, sym, refl, subst, ℕ, Bool, true, false, List, Result, Ok, Err, arith}
use Rattle.std.specs.Prelude.{IfErr, OnOk}
use Rattle.device.specs.Calls.{Effect, Follows}
use Rattle.outside.specs.declared.fault.OutsideFault.{OutsideFault}
use Rattle.outside.specs.declared.fault.OutsideFault.TheVariants as fault
use Rattle.outside.specs.Arrivals.{Arrives}
use Rattle.outside.specs.Calls.{Call, stops_reported}
use Rattle.outside.specs.Devices.{Device, Named}
use Rattle.outside.specs.GoingOn.{FilesGoOn}
use Rattle.outside.proofs.CallsSpare.{AreSparing, followed_spares}
use Rattle.outside.proofs.GoingOn.{stays}
use Rattle.run_pair.specs.Tallies.{Counts, Tallied, ended, failed, seen_with}
use Rattle.run_pair.proofs.Arriving.{quiet}

-- ---- the outside is broken

pub stuck : {T : Type 0} (honest : Type 0) (ours : List ℕ → Bool) (alone : Bool) (copies : T → ℕ) (may_report : OutsideFault → Type 0) (does : T → Effect Device) (leaves : OutsideFault → Effect Device) (d : Device) (c : Counts)
    → c.is_broken ≡ true → may_report fault.Stopped → leaves fault.Stopped d d
    → Call {T = T} honest (Arrives ours alone) copies may_report does leaves (seen_with d c) (seen_with d c) (Err fault.Stopped)
stuck honest ours alone copies may_report does leaves d c broken may same = record {
  acts = record {
    is_broken = broken;
    counted = λ _. inl broken;
    no_less = omega arith;
    stuck = λ _. (refl, refl);
    left = λ _. record { mid = d; before = quiet ours alone d; following = same };
  };
  goes_on = λ _. stays d d refl;
  counts = record {
    reported = may;
    noted = λ whole. absurd (cc);
    stopped = λ whole. absurd (cc);
    appends = refl;
    reopened = refl;
    stuck = λ _. refl;
  };
}

-- ---- an answer is reported as it is

module _ {T : Type 0} (honest : Type 0) (others : Effect Device) (copies : T → ℕ) (may_report : OutsideFault → Type 0) (does : T → Effect Device) (leaves : OutsideFault → Effect Device) (d d' : Device) (c : Counts)
    (whole : c.is_broken ≡ false) (sparing : AreSparing others does leaves) (files : honest → FilesGoOn d.files d'.files) where
  pub failed_call : (e : OutsideFault) → may_report e → (honest → Follows others (leaves e) d d')
      → Call honest others copies may_report does leaves (seen_with d c) (seen_with d' (failed e c)) (Err e)
  failed_call e may left_so = record {
    acts = record {
      is_broken = refl;
      counted = λ is. inr (omega (arith, ap stops_reported is));
      no_less = omega arith;
      stuck = λ broken. absurd (cc);
      left = left_so;
    };
    goes_on = λ h. record { files = files h; spares = followed_spares others (leaves e) sparing.others (sparing.leaves e) d d' (left_so h) };
    counts = record {
      reported = may;
      noted = λ _. refl;
      stopped = λ _. omega arith;
      appends = refl;
      reopened = refl;
      stuck = λ broken. absurd (cc);
    };
  }

  pub done_call : (x : T) → (honest → Follows others (does x) d d') → Call honest others copies may_report does leaves (seen_with d c) (seen_with d' (ended copies (Ok x) c)) (Ok x)
  done_call x done_so = record {
    acts = record { was_whole = whole; is_whole = whole; stops = refl; effect = done_so };
    goes_on = λ h. record { files = files h; spares = followed_spares others (does x) sparing.others (sparing.does x) d d' (done_so h) };
    counts = record { reported = refl; appends = omega arith; reopened = refl };
  }

-- ---- what was counted

pub tally : {T : Type 0} (ends : Result T OutsideFault → Counts → Counts) (answer result : Result T OutsideFault) (c c' : Counts) → c.is_broken ≡ false → result ≡ answer → c' ≡ ends answer c → Tallied ends result c c'
tally ends answer result c c' whole same now = record { counted = λ _. now ∙ ap (λ r. ends r c) (sym same); stuck = λ broken. absurd (cc) }

-- such a call names no message
pub none_named : {T : Type 0} (copies : T → ℕ) (answer : Result T OutsideFault) (c : Counts) → (ended copies answer c).named ≡ c.named
none_named copies (Ok x) c = refl
none_named copies (Err e) c = refl

-- a call whose answer is counted as it is, over a device that has the messages that were named
pub tallied : {T : Type 0} (honest : Type 0) (others : Effect Device) (copies : T → ℕ) (may_report : OutsideFault → Type 0) (does : T → Effect Device) (leaves : OutsideFault → Effect Device) (d : Device) (now_with : List Named → Device) (c c' : Counts) (answer result : Result T OutsideFault)
    → result ≡ answer → c' ≡ ended copies answer c
    → Call honest others copies may_report does leaves (seen_with d c) (seen_with (now_with c.named) (ended copies answer c)) answer
    → Call honest others copies may_report does leaves (seen_with d c) (seen_with (now_with c'.named) c') result
tallied {T} honest others copies may_report does leaves d now_with c c' answer result same now call =
    subst (λ (k : Counts). Call honest others copies may_report does leaves (seen_with d c) (seen_with (now_with k.named) k) result) (sym now)
    (subst (λ (ns : List Named). Call honest others copies may_report does leaves (seen_with d c) (seen_with (now_with ns) (ended copies answer c)) result) (sym (none_named copies answer c))
    (subst (λ (r : Result T OutsideFault). Call honest others copies may_report does leaves (seen_with d c) (seen_with (now_with c.named) (ended copies answer c)) r) (sym same) call))

-- ---- what is said of an answer is said of the result

pub on_ok : {T : Type 0} (P Q : Type 0) (answer result : Result T OutsideFault) → result ≡ answer → (P → Q) → OnOk answer P → OnOk result Q
on_ok {T} P Q answer result same f h = subst (λ (r : Result T OutsideFault). OnOk r Q) (sym same) (by_answer answer h)
  where
    by_answer : (a : Result T OutsideFault) → OnOk a P → OnOk a Q
    by_answer (Ok x) k = f k
    by_answer (Err e) k = tt

pub if_err : {T : Type 0} (P Q : OutsideFault → Type 0) (answer result : Result T OutsideFault) → result ≡ answer → ((e : OutsideFault) → P e → Q e) → IfErr answer P → IfErr result Q
if_err {T} P Q answer result same f h = subst (λ (r : Result T OutsideFault). IfErr r Q) (sym same) (by_answer answer h)
  where
    by_answer : (a : Result T OutsideFault) → IfErr a P → IfErr a Q
    by_answer (Ok x) k = tt
    by_answer (Err e) k = f e k

pub at_ok : {T P : Type 0} (x : T) (answer : Result T OutsideFault) → answer ≡ Ok x → OnOk answer P → P
at_ok {T} {P} x answer is h = subst (λ (r : Result T OutsideFault). OnOk r P) is h
