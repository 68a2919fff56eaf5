-- What was asked of several, one after another, and how far it came.
use Rattle.std.proofs.Common.{◌≡◌, ℕ, suc, ◌+◌, ◌<◌, Bool, true, false, List, [], ◌∷◌, ◌++◌, length, get_or, drop, Option, None, Result, Ok, Err, IfOk, refl, ap, sym, ◌∙◌, subst, append_assoc, append-nil, drop-cons, arith}
use Rattle.std.specs.List.{fold}
use Rattle.rules.specs.declared.options.Options.{Options}
use Rattle.rules.specs.declared.options.Sides.{Sides}
use Rattle.channels.specs.Asked.{Asked, Outcome, Done, Place, Ran}
use Rattle.channels.specs.declared.fault.BoxFailure.{BoxFailure}
use Rattle.channels.specs.declared.verdict.Verdict.{Verdict}
use Rattle.channels.specs.declared.verdict.Verdict.TheVariants.{Clean, Faulty, Over}
use Rattle.channels.specs.Asks.{run_attempts}
use Rattle.channels.specs.Courses.{Begun, Following, Course, Follows, Goes, InOrder, IsBoxAsked, IsRunAsked, Makes, NextOf, SoFar, is_over, covered_course, onward, onward_by, run_course}
use Rattle.channels.specs.Outcomes.{IsReportedOf, outcome_of_box_fault, verdict_of}
use Rattle.channels.specs.Verdicts.{both}
use Rattle.channels.proofs.CourseLemmas.{Follows-ends, IsReportedOf-verdict, fold_after, fault_is_fault, is_not_over}

-- ---- so far

-- all of it was asked: that is a beginning
pub SoFar-all : {L E : Type 0} (noted : L → Asked → L) (old new : L) (is_such : Verdict → List Asked → Type 0) (verdict : Verdict) (result : Result Verdict E)
    (more : List Asked) → is_such verdict more → new ≡ fold noted old more → IfOk result (λ reported. reported ≡ verdict)
    → Goes noted old new (SoFar result is_such)
SoFar-all noted old new is_such verdict (Ok reported) more h grown e =
    record { more = more; is = subst (λ v. is_such v more) (sym e) h; grown = grown }
SoFar-all noted old new is_such verdict (Err fault) more h grown e = record {
  more = more;
  is = record { verdict = verdict; rest = []; is = subst (is_such verdict) (sym (append-nil more)) h };
  grown = grown;
}

-- so much was asked before, and what this was makes of the whole something else
pub SoFar-following : {L E : Type 0} (noted : L → Asked → L) (old middle new : L) (before : List Asked) (is_such is_whole : Verdict → List Asked → Type 0)
    (result : Result Verdict E) → middle ≡ fold noted old before
    → ((verdict : Verdict) (asked : List Asked) → is_such verdict asked → is_whole verdict (before ++ asked))
    → Goes noted middle new (SoFar result is_such) → Goes noted old new (SoFar result is_whole)
SoFar-following noted old middle new before is_such is_whole (Ok verdict) grown f h = record {
  more = before ++ h.more;
  is = f verdict h.more h.is;
  grown = fold_after noted old middle new before h.more grown h.grown;
}
SoFar-following noted old middle new before is_such is_whole (Err fault) grown f h = record {
  more = before ++ h.more;
  is = record {
    verdict = h.is.verdict;
    rest = h.is.rest;
    is = subst (is_whole h.is.verdict) (sym (append_assoc before h.more h.is.rest)) (f h.is.verdict (h.more ++ h.is.rest) h.is.is);
  };
  grown = fold_after noted old middle new before h.more grown h.grown;
}

-- ---- of a mailbox

is_onward : (first next : Course) → Done ≡ first.outcome → onward first next ≡ record { asked = first.asked ++ next.asked; outcome = next.outcome }
is_onward first next e = sym (subst (λ o. record { asked = first.asked ++ next.asked; outcome = next.outcome } ≡ onward_by o first.asked next) e refl)

-- one that was made, or was there, and then was run
IsBoxAsked-ran : {L : Type 0} (noted : L → Asked → L) (options : Options) (place : Place) (absent : Sides) (old middle : L)
    (made : Makes noted place absent Done old middle) (verdict : Verdict) (asked : List Asked)
    → IsRunAsked options place verdict asked → IsBoxAsked options place absent verdict ((covered_course place absent made.ends).asked ++ asked)
IsBoxAsked-ran noted options place absent old middle made verdict asked run =
    let first : Course = covered_course place absent made.ends in
    let next : Course = run_course options place run.ran run.gave_up in
    let e : onward first next ≡ record { asked = first.asked ++ next.asked; outcome = next.outcome } = is_onward first next made.follows.ended in
    record {
      ends = record { found_new = made.ends.found_new; made_far = made.ends.made_far; made_near = made.ends.made_near; ran = run.ran; gave_up = run.gave_up };
      all = ap (λ a. first.asked ++ a) run.all ∙ sym (ap (λ c. c.asked) e);
      reported = subst (λ o. IsReportedOf o verdict) (sym (ap (λ c. c.outcome) e)) run.reported;
    }

pub SoFar-ran : {L E : Type 0} (noted : L → Asked → L) (options : Options) (place : Place) (absent : Sides) (old middle new : L) (result : Result Verdict E)
    → Makes noted place absent Done old middle → Goes noted middle new (SoFar result (IsRunAsked options place))
    → Goes noted old new (SoFar result (IsBoxAsked options place absent))
SoFar-ran noted options place absent old middle new result made h =
    SoFar-following noted old middle new (covered_course place absent made.ends).asked (IsRunAsked options place) (IsBoxAsked options place absent) result
    made.follows.grown (IsBoxAsked-ran noted options place absent old middle made) h

-- one that was not made
pub SoFar-unmade : {L E : Type 0} (noted : L → Asked → L) (options : Options) (place : Place) (absent : Sides) (old new : L) (fault : BoxFailure) (result : Result Verdict E)
    → Makes noted place absent (outcome_of_box_fault fault) old new
    → IfOk result (λ reported. reported ≡ verdict_of (outcome_of_box_fault fault))
    → Goes noted old new (SoFar result (IsBoxAsked options place absent))
SoFar-unmade noted options place absent old new fault result made e =
    let o : Outcome = outcome_of_box_fault fault in
    let first : Course = covered_course place absent made.ends in
    let next : Course = run_course options place made.ends.ran made.ends.gave_up in
    let whole : Follows noted old new o (onward first next) = Follows-ends noted old new o first next (fault_is_fault fault) made.follows in
    SoFar-all noted old new (IsBoxAsked options place absent) (verdict_of o) result (onward first next).asked
    (record { ends = made.ends; all = refl; reported = subst (λ x. IsReportedOf x (verdict_of o)) whole.ended (IsReportedOf-verdict o) }) whole.grown e

-- ---- of several

both_assoc : (verdict reported later : Verdict) → both (both verdict reported) later ≡ both verdict (both reported later)
both_assoc verdict reported Clean = refl
both_assoc verdict reported Faulty = refl
both_assoc verdict reported Over = refl

both-clean : (later : Verdict) → both Clean later ≡ later
both-clean Clean = refl
both-clean Faulty = refl
both-clean Over = refl

-- so much was asked and reported of those before what is left: whatever comes of that makes the whole
abbrev pub Ahead : {X : Type 0} → (stops : Verdict → Bool) → (one : X → Verdict → List Asked → Type 0) → (xs left : List X) → Verdict → List Asked → Type 0
Ahead stops one xs left verdict asked = (later : Verdict) (rest : List Asked)
    → InOrder stops one left later rest → InOrder stops one xs (both verdict later) (asked ++ rest)

pub Ahead-none : {X : Type 0} (stops : Verdict → Bool) (one : X → Verdict → List Asked → Type 0) (xs : List X) → Ahead stops one xs xs Clean []
Ahead-none stops one xs = λ later rest h. subst (λ v. InOrder stops one xs v rest) (sym (both-clean later)) h

Ahead-all : {X : Type 0} (stops : Verdict → Bool) (one : X → Verdict → List Asked → Type 0) (xs : List X) (verdict : Verdict) (asked : List Asked)
    → Ahead stops one xs [] verdict asked → InOrder stops one xs verdict asked
Ahead-all stops one xs verdict asked h = subst (λ a. InOrder stops one xs verdict a) (append-nil asked) (h Clean [] (refl, refl))

Ahead-next : {X : Type 0} (stops : Verdict → Bool) (one : X → Verdict → List Asked → Type 0) (xs left : List X) (x : X) (verdict reported : Verdict)
    (asked first : List Asked) → Ahead stops one xs (x ∷ left) verdict asked → one x reported first → stops reported ≡ false
    → Ahead stops one xs left (both verdict reported) (asked ++ first)
Ahead-next stops one xs left x verdict reported asked first h k e = λ later rest l.
    let next : Following stops (one x) (InOrder stops one left) (both reported later) (first ++ rest) = record {
      reported = reported;
      later = later;
      first = first;
      rest = rest;
      is_first = k;
      is_rest = subst (λ b. NextOf b (InOrder stops one left) later rest) (sym e) l;
      all = refl;
      together = refl;
    } in
    subst (λ v. InOrder stops one xs v ((asked ++ first) ++ rest)) (sym (both_assoc verdict reported later))
    (subst (λ a. InOrder stops one xs (both verdict (both reported later)) a) (sym (append_assoc asked first rest)) (h (both reported later) (first ++ rest) next))

Ahead-stops : {X : Type 0} (stops : Verdict → Bool) (one : X → Verdict → List Asked → Type 0) (xs left : List X) (x : X) (verdict reported : Verdict)
    (asked first : List Asked) → Ahead stops one xs (x ∷ left) verdict asked → one x reported first → stops reported ≡ true
    → InOrder stops one xs (both verdict reported) (asked ++ first)
Ahead-stops stops one xs left x verdict reported asked first h k e =
    let last : Following stops (one x) (InOrder stops one left) reported first = record {
      reported = reported;
      later = Clean;
      first = first;
      rest = [];
      is_first = k;
      is_rest = subst (λ b. NextOf b (InOrder stops one left) Clean []) (sym e) (refl, refl);
      all = sym (append-nil first);
      together = refl;
    } in h reported first last

-- what can be asked and reported
pub record Possible (is_such : Verdict → List Asked → Type 0) : Type 0 where
  pub verdict : Verdict
  pub asked : List Asked
  pub is : is_such verdict asked

InOrder-possible-by : {X : Type 0} (stops : Verdict → Bool) (one : X → Verdict → List Asked → Type 0) (x : X) (xs : List X) (p : Possible (one x))
    (q : Possible (InOrder stops one xs)) (b : Bool) → stops p.verdict ≡ b → Possible (InOrder stops one (x ∷ xs))
InOrder-possible-by stops one x xs p q true e = record {
  verdict = p.verdict;
  asked = p.asked;
  is = record {
    reported = p.verdict;
    later = Clean;
    first = p.asked;
    rest = [];
    is_first = p.is;
    is_rest = subst (λ b. NextOf b (InOrder stops one xs) Clean []) (sym e) (refl, refl);
    all = sym (append-nil p.asked);
    together = refl;
  };
}
InOrder-possible-by stops one x xs p q false e = record {
  verdict = both p.verdict q.verdict;
  asked = p.asked ++ q.asked;
  is = record {
    reported = p.verdict;
    later = q.verdict;
    first = p.asked;
    rest = q.asked;
    is_first = p.is;
    is_rest = subst (λ b. NextOf b (InOrder stops one xs) q.verdict q.asked) (sym e) q.is;
    all = refl;
    together = refl;
  };
}

pub InOrder-possible : {X : Type 0} (stops : Verdict → Bool) (one : X → Verdict → List Asked → Type 0) → ((x : X) → Possible (one x))
    → (xs : List X) → Possible (InOrder stops one xs)
InOrder-possible stops one p [] = record { verdict = Clean; asked = []; is = (refl, refl) }
InOrder-possible stops one p (x ∷ xs) = InOrder-possible-by stops one x xs (p x) (InOrder-possible stops one p xs) (stops (p x).verdict) refl

regrouped : (asked front rest later : List Asked) → (asked ++ (front ++ rest)) ++ later ≡ (asked ++ front) ++ (rest ++ later)
regrouped asked front rest later = append_assoc asked (front ++ rest) later
    ∙ ap (λ a. asked ++ a) (append_assoc front rest later) ∙ sym (append_assoc asked front (rest ++ later))

-- a write failed in the midst of one
Begun-next : {X : Type 0} (stops : Verdict → Bool) (one : X → Verdict → List Asked → Type 0) (xs left : List X) (x : X) (verdict : Verdict)
    (asked front : List Asked) → ((x : X) → Possible (one x)) → Ahead stops one xs (x ∷ left) verdict asked → (begun : Begun (one x) front)
    → (b : Bool) → stops begun.verdict ≡ b → Begun (InOrder stops one xs) (asked ++ front)
Begun-next stops one xs left x verdict asked front p h begun true e = record {
  verdict = both verdict begun.verdict;
  rest = begun.rest;
  is = subst (λ a. InOrder stops one xs (both verdict begun.verdict) a) (sym (append_assoc asked front begun.rest))
      (Ahead-stops stops one xs left x verdict begun.verdict asked (front ++ begun.rest) h begun.is e);
}
Begun-next stops one xs left x verdict asked front p h begun false e =
    let q : Possible (InOrder stops one left) = InOrder-possible stops one p left in
    record {
      verdict = both (both verdict begun.verdict) q.verdict;
      rest = begun.rest ++ q.asked;
      is = subst (λ a. InOrder stops one xs (both (both verdict begun.verdict) q.verdict) a) (regrouped asked front begun.rest q.asked)
          (Ahead-next stops one xs left x verdict begun.verdict asked (front ++ begun.rest) h begun.is e q.verdict q.asked q.is);
    }

-- the next of what is left
pub drop_next : {X : Type 0} (xs : List X) (i : ℕ) (x other : X) → i < length xs → x ≡ get_or xs i other → drop i xs ≡ x ∷ drop (i + 1) xs
drop_next xs i x other l e =
    let first : drop i xs ≡ get_or xs i other ∷ drop (suc i) xs = drop-cons xs i other l in
    let then_x : drop i xs ≡ x ∷ drop (suc i) xs = subst (λ y. drop i xs ≡ y ∷ drop (suc i) xs) (sym e) first in
    let one_more : suc i ≡ i + 1 = omega arith in
    subst (λ (n : ℕ). drop i xs ≡ x ∷ drop n xs) one_more then_x

-- ---- of several, over a record

pub Goes-none : {L X : Type 0} (noted : L → Asked → L) (old new : L) (stops : Verdict → Bool) (one : X → Verdict → List Asked → Type 0) (xs : List X)
    → new ≡ old → Goes noted old new (Ahead stops one xs xs Clean)
Goes-none noted old new stops one xs e = record { more = []; is = Ahead-none stops one xs; grown = e }

pub Goes-next : {L X : Type 0} (noted : L → Asked → L) (old middle new : L) (stops : Verdict → Bool) (one : X → Verdict → List Asked → Type 0) (xs left next : List X)
    (x : X) (verdict reported all : Verdict) → left ≡ x ∷ next → all ≡ both verdict reported → stops reported ≡ false
    → Goes noted old middle (Ahead stops one xs left verdict) → Goes noted middle new (one x reported) → Goes noted old new (Ahead stops one xs next all)
Goes-next noted old middle new stops one xs left next x verdict reported all d e s h k = record {
  more = h.more ++ k.more;
  is = subst (λ v. Ahead stops one xs next v (h.more ++ k.more)) (sym e)
      (Ahead-next stops one xs next x verdict reported h.more k.more (subst (λ ys. Ahead stops one xs ys verdict h.more) d h.is) k.is s);
  grown = fold_after noted old middle new h.more k.more h.grown k.grown;
}

pub Goes-stops : {L X : Type 0} (noted : L → Asked → L) (old middle new : L) (stops : Verdict → Bool) (one : X → Verdict → List Asked → Type 0) (xs left next : List X)
    (x : X) (verdict reported all : Verdict) → left ≡ x ∷ next → all ≡ both verdict reported → stops reported ≡ true
    → Goes noted old middle (Ahead stops one xs left verdict) → Goes noted middle new (one x reported) → Goes noted old new (InOrder stops one xs all)
Goes-stops noted old middle new stops one xs left next x verdict reported all d e s h k = record {
  more = h.more ++ k.more;
  is = subst (λ v. InOrder stops one xs v (h.more ++ k.more)) (sym e)
      (Ahead-stops stops one xs next x verdict reported h.more k.more (subst (λ ys. Ahead stops one xs ys verdict h.more) d h.is) k.is s);
  grown = fold_after noted old middle new h.more k.more h.grown k.grown;
}

pub Goes-begun : {L X : Type 0} (noted : L → Asked → L) (old middle new : L) (stops : Verdict → Bool) (one : X → Verdict → List Asked → Type 0) (xs left next : List X)
    (x : X) (verdict : Verdict) → left ≡ x ∷ next → ((x : X) → Possible (one x))
    → Goes noted old middle (Ahead stops one xs left verdict) → Goes noted middle new (Begun (one x)) → Goes noted old new (Begun (InOrder stops one xs))
Goes-begun noted old middle new stops one xs left next x verdict d p h k = record {
  more = h.more ++ k.more;
  is = Begun-next stops one xs next x verdict h.more k.more p (subst (λ ys. Ahead stops one xs ys verdict h.more) d h.is) k.is (stops k.is.verdict) refl;
  grown = fold_after noted old middle new h.more k.more h.grown k.grown;
}

pub Goes-all : {L X : Type 0} (noted : L → Asked → L) (old new : L) (stops : Verdict → Bool) (one : X → Verdict → List Asked → Type 0) (xs left : List X)
    (verdict : Verdict) → left ≡ [] → Goes noted old new (Ahead stops one xs left verdict) → Goes noted old new (InOrder stops one xs verdict)
Goes-all noted old new stops one xs left verdict e h = record {
  more = h.more;
  is = Ahead-all stops one xs verdict h.more (subst (λ ys. Ahead stops one xs ys verdict h.more) e h.is);
  grown = h.grown;
}

-- what is reported of one stops the others if all is over with it
pub is_over-last : (verdict reported all : Verdict) → all ≡ both verdict reported → (verdict ≡ Over → ⊥) → all ≡ Over → is_over reported ≡ true
is_over-last verdict Clean all e n h = absurd (n (sym e ∙ h))
is_over-last verdict Faulty all e n h = absurd (is_not_over Faulty tt (sym e ∙ h))
is_over-last verdict Over all e n h = refl

pub is_over-not : (verdict reported all : Verdict) → all ≡ both verdict reported → (all ≡ Over → ⊥) → is_over reported ≡ false
is_over-not verdict Clean all e n = refl
is_over-not verdict Faulty all e n = refl
is_over-not verdict Over all e n = absurd (n e)

-- ---- of a run

-- a write failed before it, or after it
pub Begun-unrun : {L : Type 0} (noted : L → Asked → L) (options : Options) (place : Place) (old new : L) → new ≡ old
    → Goes noted old new (Begun (IsRunAsked options place))
Begun-unrun noted options place old new e = record {
  more = [];
  is = record {
    verdict = Clean;
    rest = Ran place options run_attempts Done ∷ [];
    is = record { ran = Done; gave_up = None; all = refl; reported = is_not_over Clean tt };
  };
  grown = e;
}

pub Begun-run : {L : Type 0} (noted : L → Asked → L) (options : Options) (place : Place) (ran : Outcome) (gave_up : Option Outcome) (old new : L)
    → new ≡ fold noted old (run_course options place ran gave_up).asked → Goes noted old new (Begun (IsRunAsked options place))
Begun-run noted options place ran gave_up old new e = record {
  more = (run_course options place ran gave_up).asked;
  is = record {
    verdict = verdict_of ran;
    rest = [];
    is = record { ran = ran; gave_up = gave_up; all = append-nil (run_course options place ran gave_up).asked; reported = IsReportedOf-verdict ran };
  };
  grown = e;
}

pub Goes-run : {L : Type 0} (noted : L → Asked → L) (options : Options) (place : Place) (ran : Outcome) (gave_up : Option Outcome) (verdict : Verdict) (old new : L)
    → new ≡ fold noted old (run_course options place ran gave_up).asked → IsReportedOf ran verdict → Goes noted old new (IsRunAsked options place verdict)
Goes-run noted options place ran gave_up verdict old new e h = record {
  more = (run_course options place ran gave_up).asked;
  is = record { ran = ran; gave_up = gave_up; all = refl; reported = h };
  grown = e;
}

-- its fault was reported
pub SoFar-fault : {L E : Type 0} (noted : L → Asked → L) (options : Options) (place : Place) (fault : BoxFailure) (gave_up : Option Outcome) (result : Result Verdict E) (old new : L)
    → new ≡ fold noted old (run_course options place (outcome_of_box_fault fault) gave_up).asked
    → IfOk result (λ verdict. verdict ≡ verdict_of (outcome_of_box_fault fault)) → Goes noted old new (SoFar result (IsRunAsked options place))
SoFar-fault noted options place fault gave_up (Ok verdict) old new e h =
    let o : Outcome = outcome_of_box_fault fault in
    Goes-run noted options place o gave_up verdict old new e (subst (λ v. IsReportedOf o v) (sym h) (IsReportedOf-verdict o))
SoFar-fault noted options place fault gave_up (Err why) old new e h = Begun-run noted options place (outcome_of_box_fault fault) gave_up old new e

-- of numbers, of a list that is another one by name
pub places_next : (places items : List ℕ) (i : ℕ) → items ≡ places → i < length items → drop i places ≡ get_or items i 0 ∷ drop (i + 1) places
places_next places items i e l =
    let there : i < length places = subst (λ (xs : List ℕ). i < length xs) e l in
    drop_next places i (get_or items i 0) 0 there (ap (λ (xs : List ℕ). get_or xs i 0) e)
