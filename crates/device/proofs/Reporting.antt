-- From calls of the system, which a record has, to the call of a device that made them, and what it reports.
use Rattle.std.proofs.Common.{◌≡◌, ◌∙◌, ◌+◌, ◌≤◌, true, false, List, Result, Ok, Err, refl, sym, ap, inl, inr, subst, arith}
use Rattle.std.specs.Prelude.{is_ok, MatchResult, IfOk, OnOk, OnErr, IfErr}
use Rattle.device.specs.Calls.{Acts, Effect, Halted, IsStop, Others, Seen, Went, among}
use Rattle.device.specs.declared.DeviceFault.{DeviceFault}
use Rattle.device.specs.declared.DeviceFault.TheVariants.{Stopped}
use Rattle.device.specs.Conditions.{DiskParts, seen_in}
use Rattle.device.specs.Recorded.{Recorded, Unnoted}

-- ---- what a record says

-- of what it says, nothing changes where no call was noted
pub unnoted : {W E S : Type 0} (says : W → List E → S) (a b : Recorded W E) → Unnoted a b → says b.world b.events ≡ says a.world a.events
unnoted {W} {E} says a b u = ap (λ (w : W). says w b.events) u.world ∙ ap (λ (e : List E). says a.world e) u.events

pub kept : {W E : Type 0} (honest : W → List E → Type 0) (a b : Recorded W E) → Unnoted a b → honest b.world b.events → honest a.world a.events
kept {W} {E} honest a b u k =
    let P : W → Type 0 = λ w. honest w b.events in
    let Q : List E → Type 0 = λ e. honest a.world e in
    subst Q u.events (subst P u.world k)

-- the device that stores what the record says
abbrev pub seen : {W E S : Type 0} → (says : W → List E → S) → Recorded W E → Seen S
seen says a = seen_in (says a.world a.events) a.disk.condition

-- ---- what is reported of the answer of the system

pub record Reported {T F W E : Type 0} (answer : Result T F) (result : Result T DeviceFault) (b d : Recorded W E) : Type 0 where
  pub answer_is : MatchResult result (λ value. answer ≡ Ok value) (λ _. is_ok answer ≡ false)
  pub ok : OnOk result (d ≡ b)
  pub calls : Unnoted b d
  pub broken : OnErr result (d.disk.condition.is_broken ≡ true)
  pub counted : IfErr result (λ fault. fault ≡ Stopped → d.disk.condition.stops ≡ b.disk.condition.stops + 1)
  pub no_less : b.disk.condition.stops ≤ d.disk.condition.stops

went : {W E S : Type 0} (honest : W → List E → Type 0) (says : W → List E → S) (does : Effect S) (a b d : Recorded W E)
    → a.disk.condition.is_broken ≡ false → b.disk ≡ a.disk → d ≡ b
    → (honest b.world b.events → does (says a.world a.events) (says b.world b.events)) → Went (honest d.world d.events) does (seen says a) (seen says d)
went {W} {E} honest says does a b d whole disk is effect =
    let P : Recorded W E → Type 0 = λ x. Went (honest x.world x.events) does (seen says a) (seen says x) in
    subst P (sym is) (record {
      was_whole = whole;
      is_whole = ap (λ (x : DiskParts). x.condition.is_broken) disk ∙ whole;
      stops = ap (λ (x : DiskParts). x.condition.stops) disk;
      effect = effect;
    })

halted : {W E S : Type 0} (honest : W → List E → Type 0) (says : W → List E → S) (is_stop : Type 0) (leaves : Effect S) (a b d : Recorded W E)
    → a.disk.condition.is_broken ≡ false → b.disk ≡ a.disk → Unnoted b d
    → d.disk.condition.is_broken ≡ true → (is_stop → d.disk.condition.stops ≡ b.disk.condition.stops + 1)
    → b.disk.condition.stops ≤ d.disk.condition.stops
    → (honest b.world b.events → leaves (says a.world a.events) (says b.world b.events))
    → Halted (honest d.world d.events) is_stop leaves (seen says a) (seen says d)
halted {W} {E} {S} honest says is_stop leaves a b d whole disk u broken counted more left =
    let stops : b.disk.condition.stops ≡ a.disk.condition.stops = ap (λ (x : DiskParts). x.condition.stops) disk in
    record {
      is_broken = broken;
      counted = λ s. inr (let up = counted s in omega arith);
      no_less = omega arith;
      stuck = λ was. absurd (cc);
      left = λ k. let P : S → Type 0 = λ x. leaves (says a.world a.events) x in
          subst P (sym (unnoted says b d u)) (left (kept honest b d u k));
    }

-- a call of a device, which made calls of the system and reports the answer of the last
pub called : {T F W E S : Type 0} (honest : W → List E → Type 0) (says : W → List E → S) (beside : Others S) (does : T → Effect S) (leaves : Effect S)
    (a b d : Recorded W E) (answer : Result T F) (result : Result T DeviceFault) → a.disk.condition.is_broken ≡ false → b.disk ≡ a.disk
    → IfOk answer (λ value. honest b.world b.events → among beside (does value) (says a.world a.events) (says b.world b.events))
    → OnErr answer (honest b.world b.events → among beside leaves (says a.world a.events) (says b.world b.events))
    → Reported answer result b d → Acts (honest d.world d.events) IsStop beside does (λ fault. leaves) (seen says a) (seen says d) result
called {T} {F} honest says beside does leaves a b d (Ok x) (Ok v) whole disk ok err reported =
    let P : Result T F → Type 0 = λ r. IfOk r (λ value. honest b.world b.events → among beside (does value) (says a.world a.events) (says b.world b.events)) in
    went honest says (among beside (does v)) a b d whole disk reported.ok (subst P reported.answer_is ok)
called honest says beside does leaves a b d (Err e) (Ok v) whole disk ok err reported = let no : Err e ≡ Ok v = reported.answer_is in absurd (cc)
called honest says beside does leaves a b d (Ok x) (Err fault) whole disk ok err reported = let no : true ≡ false = reported.answer_is in absurd (cc)
called honest says beside does leaves a b d (Err e) (Err fault) whole disk ok err reported =
    halted honest says (fault ≡ Stopped) (among beside leaves) a b d whole disk reported.calls reported.broken reported.counted reported.no_less err

-- a call of a device whose call before has stopped
pub stuck : {S : Type 0} (honest is_stop : Type 0) (leaves : Effect S) (s : Seen S) → s.is_broken ≡ true → is_stop
    → leaves s.stored s.stored → Halted honest is_stop leaves s s
stuck honest is_stop leaves s broken stop stays =
    record { is_broken = broken; counted = λ _. inl broken; no_less = omega arith; stuck = λ _. (stop, refl); left = λ _. stays }
