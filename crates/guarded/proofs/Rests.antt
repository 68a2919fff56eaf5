-- Calls that left all as it was, but for what others added.
use Rattle.std.proofs.Common.{◌≡◌, ℕ, Bool, false, List, Ok, refl, sym, ◌∙◌, subst, arith}
use Rattle.outside.specs.Arrivals.{Arrives}
use Rattle.outside.specs.Calls.{Opens, Seen}
use Rattle.outside.specs.Devices.{Device}
use Rattle.outside.specs.GoingOn.{GoesOn}
use Rattle.outside.proofs.GoingOn.{goes_after, stays}
use Rattle.guarded.proofs.Arrivals.{arrives_again, quiet}

pub record Rests (honest : Type 0) (ours : List ℕ → Bool) (alone : Bool) (old new : Seen) : Type 0 where
  pub was_whole : old.is_broken ≡ false
  pub is_whole : new.is_broken ≡ false
  pub stops : new.stops ≡ old.stops
  pub reported : new.reported ≡ old.reported
  pub appends : new.appends ≡ old.appends
  pub reopened : new.reopened ≡ old.reopened
  pub added : honest → Arrives ours alone old.device new.device
  pub goes_on : honest → GoesOn old.device new.device

-- no call
pub rests_none : (honest : Type 0) (ours : List ℕ → Bool) (alone : Bool) (s : Seen) → s.is_broken ≡ false → Rests honest ours alone s s
rests_none honest ours alone s whole = record { was_whole = whole; is_whole = whole; stops = refl; reported = refl; appends = refl; reopened = refl; added = λ h. quiet ours alone s.device; goes_on = λ h. stays s.device s.device refl }

-- one more call that answers what is so
pub rests_read : {T : Type 0} (h1 h2 : Type 0) (ours : List ℕ → Bool) (alone : Bool) (states : T → Device → Type 0) (answer : T) (old mid new : Seen) → Rests h1 ours alone old mid → (h2 → h1) → Opens h2 (Arrives ours alone) states mid new (Ok answer) → Rests h2 ours alone old new
rests_read h1 h2 ours alone states answer old mid new r before c = record {
  was_whole = r.was_whole;
  is_whole = c.acts.is_whole;
  stops = c.acts.stops ∙ r.stops;
  reported = c.counts.reported ∙ r.reported;
  appends = let k = c.counts.appends in let l = r.appends in omega arith;
  reopened = c.counts.reopened ∙ r.reopened;
  added = λ h.
      let f = c.acts.effect h in
      let then : Arrives ours alone mid.device new.device = subst (λ (d : Device). Arrives ours alone mid.device d) (sym f.following.0) f.before in
      arrives_again ours alone old.device mid.device new.device (r.added (before h)) then;
  goes_on = λ h. goes_after old.device mid.device new.device (r.goes_on (before h)) (c.goes_on h);
}

-- a call that answers what is so
pub rests_listed : {T : Type 0} {states : T → Device → Type 0} (honest : Type 0) (ours : List ℕ → Bool) (alone : Bool) (answer : T) (old new : Seen) → Opens honest (Arrives ours alone) states old new (Ok answer) → Rests honest ours alone old new
rests_listed {T} {states} honest ours alone answer old new c =
    rests_read honest honest ours alone states answer old old new (rests_none honest ours alone old c.acts.was_whole) (λ h. h) c
