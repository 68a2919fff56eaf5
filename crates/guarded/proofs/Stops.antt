-- A call that stops, since the run is not to go on.
use Rattle.std.proofs.Common.{◌≡◌, ◌∙◌, ◌+◌, if◌then◌else◌, inl, inr, ℕ, Bool, true, false, List, ◌∷◌, Err, ap, refl, sym, subst, arith}
use Rattle.std.proofs.lemmas.Bool.{both_ways}
use Rattle.device.specs.Calls.{Effect}
use Rattle.outside.specs.declared.fault.OutsideFault.{OutsideFault}
use Rattle.outside.specs.declared.fault.OutsideFault.TheVariants.{Stopped}
use Rattle.outside.specs.Arrivals.{Arrives}
use Rattle.outside.specs.Calls.{Call, Changes, FromBook, FromBox, LeavesBy, Seen, Writes, stopped}
use Rattle.outside.specs.Devices.{Device}
use Rattle.outside.proofs.GoingOn.{stays}
use Rattle.guarded.proofs.Arrivals.{quiet}
use Rattle.guarded.proofs.Rests.{Rests, rests_none}

module _ {T : Type 0} (before honest : Type 0) (ours : List ℕ → Bool) (alone : Bool) (copies : T → ℕ) (may_report : OutsideFault → Type 0) (does : T → Effect Device) (leaves : OutsideFault → Effect Device) where
  -- after calls that left all as it was
  pub stops_after : (old mid new : Seen) (fault : OutsideFault) → Rests before ours alone old mid → (honest → before) → fault ≡ Stopped → new ≡ stopped mid → may_report Stopped → ((d : Device) → leaves Stopped d d)
      → Call honest (Arrives ours alone) copies may_report does leaves old new (Err fault)
  stops_after old mid new fault r was is_stop now may same =
      let halted : new ≡ record mid { is_broken = true; stops = mid.stops + 1; reported = Stopped ∷ mid.reported }
      = now ∙ ap (λ b. if b then mid else record mid { is_broken = true; stops = mid.stops + 1; reported = Stopped ∷ mid.reported }) r.is_whole in
      subst (λ (f : OutsideFault). Call honest (Arrives ours alone) copies may_report does leaves old new (Err f)) (sym is_stop)
      (subst (λ (n : Seen). Call honest (Arrives ours alone) copies may_report does leaves old n (Err Stopped)) (sym halted) record {
        acts = record {
          is_broken = refl;
          counted = λ _. let k = r.stops in inr (omega arith);
          no_less = let k = r.stops in omega arith;
          stuck = λ broken. absurd (both_ways old.is_broken r.was_whole broken);
          left = λ h. record { mid = mid.device; before = r.added (was h); following = same mid.device };
        };
        goes_on = λ h. r.goes_on (was h);
        counts = record {
          reported = may;
          noted = λ _. ap (λ (ts : List OutsideFault). Stopped ∷ ts) r.reported;
          stopped = λ _. ap (λ n. n + 1) r.stops;
          appends = r.appends;
          reopened = r.reopened;
          stuck = λ broken. absurd (both_ways old.is_broken r.was_whole broken);
        };
      })

-- what is broken stops, and stays as it is
stuck : {T : Type 0} (honest : Type 0) (ours : List ℕ → Bool) (alone : Bool) (copies : T → ℕ) (may_report : OutsideFault → Type 0) (does : T → Effect Device) (leaves : OutsideFault → Effect Device) (s : Seen)
    → s.is_broken ≡ true → may_report Stopped → leaves Stopped s.device s.device
    → Call {T = T} honest (Arrives ours alone) copies may_report does leaves s s (Err Stopped)
stuck honest ours alone copies may_report does leaves s broken may same = record {
  acts = record {
    is_broken = broken;
    counted = λ _. inl broken;
    no_less = omega arith;
    stuck = λ _. (refl, refl);
    left = λ _. record { mid = s.device; before = quiet ours alone s.device; following = same };
  };
  goes_on = λ _. stays s.device s.device refl;
  counts = record {
    reported = may;
    noted = λ whole. absurd (both_ways s.is_broken whole broken);
    stopped = λ whole. absurd (both_ways s.is_broken whole broken);
    appends = refl;
    reopened = refl;
    stuck = λ _. refl;
  };
}

-- a call that stops and does nothing else
pub stops_first : {T : Type 0} (honest : Type 0) (ours : List ℕ → Bool) (alone : Bool) (copies : T → ℕ) (may_report : OutsideFault → Type 0) (does : T → Effect Device) (leaves : OutsideFault → Effect Device) (old new : Seen) (fault : OutsideFault)
    → fault ≡ Stopped → new ≡ stopped old → may_report Stopped → ((d : Device) → leaves Stopped d d)
    → Call {T = T} honest (Arrives ours alone) copies may_report does leaves old new (Err fault)
stops_first {T} honest ours alone copies may_report does leaves old new fault is_stop now may same = by_case old.is_broken refl
  where
    by_case : (b : Bool) → old.is_broken ≡ b → Call {T = T} honest (Arrives ours alone) copies may_report does leaves old new (Err fault)
    by_case false whole = stops_after honest honest ours alone copies may_report does leaves old old new fault (rests_none honest ours alone old whole) (λ h. h) is_stop now may same
    by_case true broken =
        let stays : new ≡ old = now ∙ ap (λ b. if b then old else record old { is_broken = true; stops = old.stops + 1; reported = Stopped ∷ old.reported }) broken in
        subst (λ (f : OutsideFault). Call honest (Arrives ours alone) copies may_report does leaves old new (Err f)) (sym is_stop)
        (subst (λ (n : Seen). Call honest (Arrives ours alone) copies may_report does leaves old n (Err Stopped)) (sym stays)
        (stuck honest ours alone copies may_report does leaves old broken may (same old.device)))

-- a plan is not begun: the call stops
pub stops_begin : (honest : Type 0) (ours : List ℕ → Bool) (alone : Bool) (does part : Effect Device) (old new : Seen) (fault : OutsideFault)
    → fault ≡ Stopped → new ≡ stopped old → Writes honest (Arrives ours alone) FromBook does part old new (Err fault)
stops_begin honest ours alone does part old new fault is_stop now =
    stops_first {T = Unit {0}} honest ours alone (λ _. 0) FromBook (λ _. does) (LeavesBy {T = Unit {0}} (λ _. does) part) old new fault is_stop now tt (λ d. inl refl)

-- a mailbox is not changed: the call stops
pub stops_change : {T : Type 0} (honest : Type 0) (ours : List ℕ → Bool) (alone : Bool) (does : T → Effect Device) (part : Effect Device) (old new : Seen) (fault : OutsideFault)
    → fault ≡ Stopped → new ≡ stopped old → Changes honest (Arrives ours alone) does part old new (Err fault)
stops_change honest ours alone does part old new fault is_stop now =
    stops_first honest ours alone (λ _. 0) FromBox does (LeavesBy does part) old new fault is_stop now tt (λ d. inl refl)
