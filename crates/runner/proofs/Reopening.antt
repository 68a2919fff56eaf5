-- The outside is opened again before each attempt but the first.
use Rattle.std.proofs.Common.{◌≡◌, ◌⊎◌, ◌-◌, ◌+◌, inl, inr, ℕ, Bool, List, [], ◌∷◌, All, Option, refl, sym, ◌∙◌, ap, subst, arith}
use Rattle.std.proofs.lemmas.Bool.{cases_eq}
use Rattle.std.proofs.lemmas.List.Elements.{All-cons, All-nil}
use Rattle.rand_core.specs.Stream.{Stream}
use Rattle.outside.specs.Calls.{Seen}
use Rattle.outside.specs.Devices.{Device}
use Rattle.outside.specs.GoingOn.{GoesOn}
use Rattle.outside.proofs.GoingOn.{stays}
use Rattle.run_states.specs.Conditions.{Underway}
use Rattle.run_states.specs.Openings.{Opening}
use Rattle.runner.specs.Answers.{Moves}
use Rattle.runner.specs.Attempts.{LastAttempt, GoesOnOver, Reopens, AttemptAt, began_on, found_by}
use Rattle.runner.proofs.Attempts.{found_device, found_first, found_later, tried_underway}

-- calls that keep it
abbrev pub reopens_kept : (n m : ℕ) (start s1 s2 : Seen) → n ≡ m → s2.reopened ≡ s1.reopened → Reopens n start s1 → Reopens m start s2
reopens_kept n m start s1 s2 same kept r = record { since = r.since; now = kept ∙ r.now; as_many = r.as_many ∙ same }

module _ {ours : List ℕ → Bool} {alone : Bool} (opening : Opening ours alone) where
  -- so many times since the start, and each time the run was underway
  pub record Attempted (from : Type 0) (times : ℕ) (start now : Seen) : Type 0 where
    pub reopens : Reopens times start now
    pub each : from → All (Underway opening) reopens.since
    pub goes_on : from → GoesOnOver reopens.since start.device now.device

  pub attempted_none : (from : Type 0) (n : ℕ) (s : Seen) → n ≡ 0 → Attempted from n s s
  attempted_none from n s z = record { reopens = record { since = []; now = refl; as_many = sym z }; each = λ f. All-nil (Underway opening); goes_on = λ f. stays s.device s.device refl }

  -- an attempt after these finds the outside so
  record Found (n : ℕ) (before : List Device) (start now s1 : Seen) : Type 0 where
    reopens : Reopens n start s1
    at : began_on reopens.since start.device ≡ s1.device
    each : Underway opening s1.device → All (Underway opening) before → All (Underway opening) reopens.since
    goes_on : (s2 : Seen) → GoesOnOver before start.device now.device → GoesOn s1.device s2.device → GoesOnOver reopens.since start.device s2.device

  found_again : (n : ℕ) (start now s1 : Seen) → (n ≡ 0 → now ≡ start) → s1 ≡ found_by n now → (r : Reopens (n - 1) start now) → Found n r.since start now s1
  found_again n start now s1 first e r = by_first (cases_eq n 0)
    where
      by_first : (n ≡ 0) ⊎ ((n ≡ 0) → ⊥) → Found n r.since start now s1
      by_first (inl z) =
          let same : s1 ≡ start = e ∙ found_first n now z ∙ first z in
          record {
            reopens = record { since = []; now = ap (λ (s : Seen). s.reopened) same; as_many = sym z };
            at = sym (ap (λ (s : Seen). s.device) same);
            each = λ u us. All-nil (Underway opening);
            goes_on = λ s2 over on. subst (λ (s : Seen). GoesOn s.device s2.device) same on;
          }
      by_first (inr f) =
          let later = e ∙ found_later n now f in
          let as_many = r.as_many in
          record {
            reopens = record {
              since = now.device ∷ r.since;
              now = ap (λ (s : Seen). s.reopened) later ∙ ap (λ (ds : List Device). now.device ∷ ds) r.now;
              as_many = omega (arith, as_many, f);
            };
            at = sym (found_device n now s1 e);
            each = λ u us. All-cons (Underway opening) now.device r.since (subst (λ (d : Device). Underway opening d) (found_device n now s1 e) u) us;
            goes_on = λ s2 over on. (over, subst (λ (d : Device). GoesOn d s2.device) (found_device n now s1 e) on);
          }

  -- where it began, as it is reported after it
  pub record LastAttemptAt (n : ℕ) (start s1 s2 : Seen) (stream drawn : Stream) : Type 0 where
    pub began : LastAttempt opening n start s2 stream
    pub at : began_on began.reopens.since start.device ≡ s1.device
    pub by : began.drawn ≡ drawn

  underway_found : (n : ℕ) (fixed : Option ℕ) (now s1 : Seen) → s1 ≡ found_by n now → AttemptAt opening fixed now.device → Underway opening s1.device
  underway_found n fixed now s1 e t = subst (λ (d : Device). Underway opening d) (sym (found_device n now s1 e)) (tried_underway opening fixed now.device t)

  pub began_at : (from : Type 0) (n : ℕ) (fixed : Option ℕ) (start now s1 s2 : Seen) (stream drawn : Stream) → (n ≡ 0 → now ≡ start) → (n ≡ 0 → drawn ≡ stream) → Moves stream drawn → s1 ≡ found_by n now
      → Attempted from (n - 1) start now → from → AttemptAt opening fixed now.device → GoesOn s1.device s2.device → s2.reopened ≡ s1.reopened → LastAttemptAt n start s1 s2 stream drawn
  began_at from n fixed start now s1 s2 stream drawn first undrawn moved e k f t on kept =
      let found = found_again n start now s1 first e k.reopens in
      let u = underway_found n fixed now s1 e t in
      record {
        began = record {
          reopens = reopens_kept n n start s1 s2 refl kept found.reopens;
          each = found.each u (k.each f);
          underway = subst (λ (d : Device). Underway opening d) (sym found.at) u;
          goes_on = found.goes_on s2 (k.goes_on f) on;
          drawn = drawn;
          undrawn = undrawn;
          moved = moved;
        };
        at = found.at;
        by = refl;
      }

  -- without the run
  pub reopens_more : (from : Type 0) (n : ℕ) (start now s1 s2 : Seen) → (n ≡ 0 → now ≡ start) → s1 ≡ found_by n now → Attempted from (n - 1) start now → s2.reopened ≡ s1.reopened → Reopens n start s2
  reopens_more from n start now s1 s2 first e k kept = reopens_kept n n start s1 s2 refl kept (found_again n start now s1 first e k.reopens).reopens

  -- one attempt more
  pub attempted_more : (from from' : Type 0) (n : ℕ) (fixed : Option ℕ) (start now s1 s2 : Seen) → (from' → from) → (n ≡ 0 → now ≡ start) → s1 ≡ found_by n now
      → Attempted from (n - 1) start now → (from → AttemptAt opening fixed now.device) → (from' → GoesOn s1.device s2.device) → s2.reopened ≡ s1.reopened → Attempted from' (n + 1 - 1) start s2
  attempted_more from from' n fixed start now s1 s2 before first e k t on kept =
      let found = found_again n start now s1 first e k.reopens in
      record {
        reopens = reopens_kept n (n + 1 - 1) start s1 s2 (omega arith) kept found.reopens;
        each = λ f. found.each (underway_found n fixed now s1 e (t (before f))) (k.each (before f));
        goes_on = λ f. found.goes_on s2 (k.goes_on (before f)) (on f);
      }
