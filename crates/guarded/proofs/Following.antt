-- A call after calls that left all as it was.
use Rattle.std.proofs.Common.{◌≡◌, ◌<◌, ◌+◌, inl, inr, ◌⊎◌, ℕ, Bool, true, List, ◌∷◌, Result, Ok, Err, ap, ◌∙◌, arith}
use Rattle.std.proofs.lemmas.Bool.{both_ways}
use Rattle.device.specs.Calls.{Effect}
use Rattle.outside.specs.declared.fault.OutsideFault.{OutsideFault}
use Rattle.outside.specs.Arrivals.{Arrives}
use Rattle.outside.specs.Calls.{Call, Seen, stops_reported}
use Rattle.outside.specs.Devices.{Device}
use Rattle.outside.proofs.GoingOn.{goes_after}
use Rattle.guarded.proofs.Arrivals.{arrives_again}
use Rattle.guarded.proofs.Rests.{Rests}

pub call_after : {T : Type 0} (h1 h2 : Type 0) (ours : List ℕ → Bool) (alone : Bool) (copies : T → ℕ) (may_report : OutsideFault → Type 0) (does : T → Effect Device) (leaves : OutsideFault → Effect Device) (old mid new : Seen) (result : Result T OutsideFault)
    → Rests h1 ours alone old mid → (h2 → h1) → Call h2 (Arrives ours alone) copies may_report does leaves mid new result → Call h2 (Arrives ours alone) copies may_report does leaves old new result
call_after h1 h2 ours alone copies may_report does leaves old mid new (Ok answer) r before c = record {
  acts = record {
    was_whole = r.was_whole;
    is_whole = c.acts.is_whole;
    stops = c.acts.stops ∙ r.stops;
    effect = λ h. let f = c.acts.effect h in record { mid = f.mid; before = arrives_again ours alone old.device mid.device f.mid (r.added (before h)) f.before; following = f.following };
  };
  goes_on = λ h. goes_after old.device mid.device new.device (r.goes_on (before h)) (c.goes_on h);
  counts = record {
    reported = c.counts.reported ∙ r.reported;
    appends = c.counts.appends ∙ ap (λ n. n + copies answer) r.appends;
    reopened = c.counts.reopened ∙ r.reopened;
  };
}
call_after h1 h2 ours alone copies may_report does leaves old mid new (Err fault) r before c = record {
  acts = record {
    is_broken = c.acts.is_broken;
    counted = λ stop. by_cause (c.acts.counted stop);
    no_less = let k = c.acts.no_less in let l = r.stops in omega arith;
    stuck = λ is. absurd (both_ways old.is_broken r.was_whole is);
    left = λ h. let f = c.acts.left h in record { mid = f.mid; before = arrives_again ours alone old.device mid.device f.mid (r.added (before h)) f.before; following = f.following };
  };
  goes_on = λ h. goes_after old.device mid.device new.device (r.goes_on (before h)) (c.goes_on h);
  counts = record {
    reported = c.counts.reported;
    noted = λ _. c.counts.noted r.is_whole ∙ ap (λ (ts : List OutsideFault). fault ∷ ts) r.reported;
    stopped = λ _. c.counts.stopped r.is_whole ∙ ap (λ n. n + stops_reported fault) r.stops;
    appends = c.counts.appends ∙ r.appends;
    reopened = c.counts.reopened ∙ r.reopened;
    stuck = λ is. absurd (both_ways old.is_broken r.was_whole is);
  };
}
  where
    by_cause : (mid.is_broken ≡ true) ⊎ (mid.stops < new.stops) → (old.is_broken ≡ true) ⊎ (old.stops < new.stops)
    by_cause (inl broken) = absurd (both_ways mid.is_broken r.is_whole broken)
    by_cause (inr less) = let l = r.stops in inr (omega arith)
