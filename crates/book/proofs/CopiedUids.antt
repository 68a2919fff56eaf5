-- The entries of copies: no two of them, and none of them and an old entry, name one UID of a side.
use Rattle.std.proofs.Common.{◌≡◌, ℕ, ◌⊎◌, inl, inr, Bool, true, false, not, ◌&&◌, ◌||◌, ◌==◌, List, [], ◌∷◌, ◌++◌, map, refl, sym, ap, ◌∙◌, subst, arith}
use Rattle.std.specs.Prelude.{All, AllPairs}
use Rattle.std.specs.List.{list_any, list_all}
use Rattle.std.proofs.lemmas.Bool.{false≢true, both_ways, and_parts, or_parts, or_cases, or_left, or_right, not-true, eqb-true, eq-eqb, false_from_ne_true}
use Rattle.std.proofs.lemmas.Bool.Decides.{nat_tests}
use Rattle.std.proofs.lemmas.List.Folds.{list_any-append}
use Rattle.std.proofs.lemmas.List.Elements.{All-nil, All-cons, All-weaker}
use Rattle.std.proofs.lemmas.List.Kept.{AllPairs-cons}
use Rattle.mailcore.specs.declared.side.Side.{Side}
use Rattle.mailcore.specs.declared.side.Side.TheVariants.{Far, Near}
use Rattle.mailcore.specs.declared.side.Direction.{Direction}
use Rattle.mailcore.specs.declared.side.Direction.TheVariants.{Pull, Push}
use Rattle.mailcore.specs.Sides.{source, target}
use Rattle.rules.specs.declared.entry.Entry.{Entry}
use Rattle.rules.specs.declared.plan.Step.{Step}
use Rattle.rules.specs.declared.plan.Step.TheVariants as step
use Rattle.rules.specs.Entries.{uid_of}
use Rattle.sync_state.specs.declared.journal.Logged.{Logged}
use Rattle.sync_state.specs.declared.journal.Logged.TheVariants.{Copied, Done, Void}
use Rattle.sync_state.specs.JournalText.{step_place, is_below, rises}
use Rattle.book.specs.Agreement.{is_named, is_side, Copy, copy_of, is_source_of, is_taken, log_agrees}
use Rattle.book.specs.Committed.{entry_of_copy, entries_of_copies}
use Rattle.book.proofs.EntryPairLemmas.{Apart}

-- ---- a message is the source of one step

abbrev source_kind : Side → ℕ
source_kind Far = 0
source_kind Near = 1

abbrev source_place : Side → ℕ → ℕ × ℕ × ℕ
source_place side uid = (source_kind side, uid, 0)

source_at : (side : Side) (uid : ℕ) (s : Step) → is_source_of side uid s ≡ true → step_place s ≡ source_place side uid
source_at Far uid (step.New Pull u flags mark) h = ap (λ (n : ℕ). source_place Far n) (eqb-true u uid h)
source_at Far uid (step.New Push u flags mark) h = absurd (false≢true h)
source_at Near uid (step.New Pull u flags mark) h = absurd (false≢true h)
source_at Near uid (step.New Push u flags mark) h = ap (λ (n : ℕ). source_place Near n) (eqb-true u uid h)
source_at side uid (step.Gone d far near) h = absurd (false≢true h)
source_at side uid (step.Flags d far near set cleared) h = absurd (false≢true h)
source_at side uid (step.Expunge s u) h = absurd (false≢true h)

pub below_trans : (a b c : ℕ × ℕ × ℕ) → is_below a b ≡ true → is_below b c ≡ true → is_below a c ≡ true
below_trans (a, b, c) (d, e, f) (g, h, i) l m = grind (arith, nat_tests)

pub below_itself : (a : ℕ × ℕ × ℕ) → is_below a a ≡ true → ⊥
below_itself (a, b, c) l = grind (arith, nat_tests)

later_source : (side : Side) (uid : ℕ) (p : ℕ × ℕ × ℕ) (steps : List Step) → rises p (map step_place steps) ≡ true → list_any (is_source_of side uid) steps ≡ true
    → is_below p (source_place side uid) ≡ true
later_source side uid p [] r h = absurd (false≢true h)
later_source side uid p (s ∷ steps) r h =
    let u = and_parts (is_below p (step_place s)) (rises (step_place s) (map step_place steps)) r in
    elim (or_cases (is_source_of side uid s) (list_any (is_source_of side uid) steps) h) [
      | inl here ↦ subst (λ (q : ℕ × ℕ × ℕ). is_below p q ≡ true) (source_at side uid s here) u.0
      | inr later ↦ below_trans p (step_place s) (source_place side uid) u.0 (later_source side uid (step_place s) steps u.1 later)
    ]

not_again : (side : Side) (uid : ℕ) (s : Step) (steps : List Step) → rises (step_place s) (map step_place steps) ≡ true → is_source_of side uid s ≡ true
    → list_any (is_source_of side uid) steps ≡ false
not_again side uid s steps r here = false_from_ne_true (list_any (is_source_of side uid) steps) (λ later.
    below_itself (step_place s) (subst (λ (q : ℕ × ℕ × ℕ). is_below (step_place s) q ≡ true) (sym (source_at side uid s here)) (later_source side uid (step_place s) steps r later)))

-- ---- copies

-- on each side the entry names the source of one of these steps, or a UID that was not taken
abbrev pub Fresh : List Entry → (plan : List Step) → List Copy → List Step → Entry → Type 0
Fresh entries plan copies steps x =
    (side : Side) → (list_any (is_source_of side (uid_of side x)) steps ≡ true) ⊎ (is_taken entries plan copies (side, uid_of side x) ≡ false)

pub record CopiesAre (entries : List Entry) (plan : List Step) (copies : List Copy) (steps : List Step) (es : List Entry) : Type 0 where
  pub fresh : All (Fresh entries plan copies steps) es
  pub apart : (side : Side) → AllPairs (Apart side) es

abbrev pub AreIn : List Step → List Step → Type 0
AreIn steps plan = (side : Side) (uid : ℕ) → list_any (is_source_of side uid) steps ≡ true → list_any (is_source_of side uid) plan ≡ true

pub record NotTaken (entries : List Entry) (plan : List Step) (copies : List Copy) (side : Side) (uid : ℕ) : Type 0 where
  pub named : is_named entries side uid ≡ false
  pub source : list_any (is_source_of side uid) plan ≡ false
  pub copied : list_any (λ (c : Copy). is_side c.0 side && c.1 == uid) copies ≡ false

pub not_taken : (entries : List Entry) (plan : List Step) (copies : List Copy) (side : Side) (uid : ℕ) → is_taken entries plan copies (side, uid) ≡ false → NotTaken entries plan copies side uid
not_taken entries plan copies side uid h =
    let u = or_parts (is_named entries side uid) (list_any (is_source_of side uid) plan || list_any (λ (c : Copy). is_side c.0 side && c.1 == uid) copies) h in
    let v = or_parts (list_any (is_source_of side uid) plan) (list_any (λ (c : Copy). is_side c.0 side && c.1 == uid) copies) u.1 in
    record { named = u.0; source = v.0; copied = v.1 }

not_taken_before : (entries : List Entry) (plan : List Step) (copies more : List Copy) (side : Side) (uid : ℕ) → is_taken entries plan (copies ++ more) (side, uid) ≡ false
    → is_taken entries plan copies (side, uid) ≡ false
not_taken_before entries plan copies more side uid h =
    let n = not_taken entries plan (copies ++ more) side uid h in
    let test : Copy → Bool = λ c. is_side c.0 side && c.1 == uid in
    let before = (or_parts (list_any test copies) (list_any test more) (sym (list_any-append test copies more) ∙ n.copied)).0 in
    rw (n.named, n.source) before

same_side : (side : Side) → is_side side side ≡ true
same_side Far = refl
same_side Near = refl

source_is : (d : Direction) (uid flags : ℕ) (mark : List ℕ) → is_source_of (source d) uid (step.New d uid flags mark) ≡ true
source_is Pull uid flags mark = eq-eqb uid uid refl
source_is Push uid flags mark = eq-eqb uid uid refl

on_each_side : (d : Direction) (P : Side → Type 0) → P (source d) → P (target d) → (side : Side) → P side
on_each_side Pull P s t Far = s
on_each_side Pull P s t Near = t
on_each_side Push P s t Far = t
on_each_side Push P s t Near = s

-- a copy that was made after this one
module _ (entries : List Entry) (plan : List Step) (copies : List Copy) (steps : List Step) (d : Direction) (uid copy : ℕ) (h : Entry) (from : uid_of (source d) h ≡ uid) (to : uid_of (target d) h ≡ copy) where
  apart_at_source : (x : Entry) → list_any (is_source_of (source d) uid) plan ≡ true → list_any (is_source_of (source d) uid) steps ≡ false
      → Fresh entries plan (copies ++ (target d, copy) ∷ []) steps x → Apart (source d) h x
  apart_at_source x planned once fresh same =
      let is : uid_of (source d) x ≡ uid = sym same ∙ from in
      elim (fresh (source d)) [
        | inl again ↦ absurd (both_ways _ once (subst (λ (n : ℕ). list_any (is_source_of (source d) n) steps ≡ true) is again))
        | inr untaken ↦
            let no_source = (not_taken entries plan (copies ++ (target d, copy) ∷ []) (source d) (uid_of (source d) x) untaken).source in
            absurd (both_ways _ (subst (λ (n : ℕ). list_any (is_source_of (source d) n) plan ≡ false) is no_source) planned)
      ]

  apart_at_target : (x : Entry) → AreIn steps plan → is_taken entries plan copies (target d, copy) ≡ false
      → Fresh entries plan (copies ++ (target d, copy) ∷ []) steps x → Apart (target d) h x
  apart_at_target x planned free fresh same =
      let is : uid_of (target d) x ≡ copy = sym same ∙ to in
      elim (fresh (target d)) [
        | inl later ↦
            let in_plan = planned (target d) (uid_of (target d) x) later in
            absurd (both_ways _ (not_taken entries plan copies (target d) copy free).source (subst (λ (n : ℕ). list_any (is_source_of (target d) n) plan ≡ true) is in_plan))
        | inr untaken ↦
            let test : Copy → Bool = λ c. is_side c.0 (target d) && c.1 == uid_of (target d) x in
            let copied = (not_taken entries plan (copies ++ (target d, copy) ∷ []) (target d) (uid_of (target d) x) untaken).copied in
            let last = (or_parts (list_any test copies) (list_any test ((target d, copy) ∷ [])) (sym (list_any-append test copies ((target d, copy) ∷ [])) ∙ copied)).1 in
            let this : (is_side (target d) (target d) && copy == uid_of (target d) x) ≡ false = (or_parts (is_side (target d) (target d) && copy == uid_of (target d) x) false last).0 in
            absurd (both_ways _ (rw (same_side (target d)) at this) (eq-eqb copy (uid_of (target d) x) (sym is)))
      ]

with_copy : (entries : List Entry) (plan : List Step) (copies : List Copy) (steps : List Step) (d : Direction) (uid copy flags : ℕ) (mark : List ℕ) (h : Entry) (rest : List Entry)
    → uid_of (source d) h ≡ uid → uid_of (target d) h ≡ copy → rises (step_place (step.New d uid flags mark)) (map step_place steps) ≡ true
    → AreIn (step.New d uid flags mark ∷ steps) plan → is_taken entries plan copies (target d, copy) ≡ false
    → CopiesAre entries plan (copies ++ (target d, copy) ∷ []) steps rest → CopiesAre entries plan copies (step.New d uid flags mark ∷ steps) (h ∷ rest)
with_copy entries plan copies steps d uid copy flags mark h rest from to r planned free are =
    let s : Step = step.New d uid flags mark in
    let here = source_is d uid flags mark in
    let first = planned (source d) uid (or_left (is_source_of (source d) uid s) (list_any (is_source_of (source d) uid) steps) here) in
    let once = not_again (source d) uid s steps r here in
    let later : AreIn steps plan = λ side u t. planned side u (or_right (is_source_of side u s) (list_any (is_source_of side u) steps) t) in
    let old = Fresh entries plan (copies ++ (target d, copy) ∷ []) steps in
    record {
      fresh = All-cons (Fresh entries plan copies (s ∷ steps)) h rest
          (on_each_side d (λ side. (list_any (is_source_of side (uid_of side h)) (s ∷ steps) ≡ true) ⊎ (is_taken entries plan copies (side, uid_of side h) ≡ false))
          (inl (subst (λ (n : ℕ). list_any (is_source_of (source d) n) (s ∷ steps) ≡ true) (sym from)
          (or_left (is_source_of (source d) uid s) (list_any (is_source_of (source d) uid) steps) here)))
          (inr (subst (λ (n : ℕ). is_taken entries plan copies (target d, n) ≡ false) (sym to) free)))
          (All-weaker old (Fresh entries plan copies (s ∷ steps)) (λ x f side. elim (f side) [
            | inl t ↦ inl (or_right (is_source_of side (uid_of side x) s) (list_any (is_source_of side (uid_of side x)) steps) t)
            | inr t ↦ inr (not_taken_before entries plan copies ((target d, copy) ∷ []) side (uid_of side x) t)
          ]) rest are.fresh);
      apart = λ side. AllPairs-cons (Apart side) h rest
          (All-weaker old (Apart side h) (λ x f. on_each_side d (λ (a : Side). Apart a h x)
          (apart_at_source entries plan copies steps d uid copy h from to x first once f)
          (apart_at_target entries plan copies steps d uid copy h from to x later free f) side) rest are.fresh)
          (are.apart side);
    }

without_copy : (entries : List Entry) (plan : List Step) (copies : List Copy) (s : Step) (steps : List Step) (rest : List Entry)
    → CopiesAre entries plan (copies ++ []) steps rest → CopiesAre entries plan copies (s ∷ steps) rest
without_copy entries plan copies s steps rest are = record {
  fresh = All-weaker (Fresh entries plan (copies ++ []) steps) (Fresh entries plan copies (s ∷ steps)) (λ x f side. elim (f side) [
    | inl t ↦ inl (or_right (is_source_of side (uid_of side x) s) (list_any (is_source_of side (uid_of side x)) steps) t)
    | inr t ↦ inr (not_taken_before entries plan copies [] side (uid_of side x) t)
  ]) rest are.fresh;
  apart = are.apart;
}

one_step : (entries : List Entry) (plan : List Step) (copies : List Copy) (s : Step) (logged : Logged) (steps : List Step) (rest : List Entry)
    → rises (step_place s) (map step_place steps) ≡ true → AreIn (s ∷ steps) plan → list_all (λ c. not (is_taken entries plan copies c)) (copy_of s logged) ≡ true
    → CopiesAre entries plan (copies ++ copy_of s logged) steps rest → CopiesAre entries plan copies (s ∷ steps) (entry_of_copy s logged ++ rest)
one_step entries plan copies (step.New Pull uid flags mark) (Copied copy) steps rest r planned free are =
    with_copy entries plan copies steps Pull uid copy flags mark _ rest refl refl r planned
    (not-true _ (and_parts (not (is_taken entries plan copies (Near, copy))) true free).0) are
one_step entries plan copies (step.New Push uid flags mark) (Copied copy) steps rest r planned free are =
    with_copy entries plan copies steps Push uid copy flags mark _ rest refl refl r planned
    (not-true _ (and_parts (not (is_taken entries plan copies (Far, copy))) true free).0) are
one_step entries plan copies (step.New Pull uid flags mark) Done steps rest r planned free are = without_copy entries plan copies _ steps rest are
one_step entries plan copies (step.New Pull uid flags mark) Void steps rest r planned free are = without_copy entries plan copies _ steps rest are
one_step entries plan copies (step.New Push uid flags mark) Done steps rest r planned free are = without_copy entries plan copies _ steps rest are
one_step entries plan copies (step.New Push uid flags mark) Void steps rest r planned free are = without_copy entries plan copies _ steps rest are
one_step entries plan copies (step.Gone d far near) logged steps rest r planned free are = without_copy entries plan copies _ steps rest are
one_step entries plan copies (step.Flags d far near set cleared) logged steps rest r planned free are = without_copy entries plan copies _ steps rest are
one_step entries plan copies (step.Expunge side uid) logged steps rest r planned free are = without_copy entries plan copies _ steps rest are

pub copies_are : (entries : List Entry) (plan : List Step) (copies : List Copy) (p : ℕ × ℕ × ℕ) (steps : List Step) (log : List Logged)
    → rises p (map step_place steps) ≡ true → AreIn steps plan → list_all (λ b. b) (log_agrees entries plan copies steps log) ≡ true
    → CopiesAre entries plan copies steps (entries_of_copies steps log)
copies_are entries plan copies p [] log r planned h = record { fresh = All-nil (Fresh entries plan copies []); apart = λ side i j d before within. absurd (omega (arith, within)) }
copies_are entries plan copies p (s ∷ steps) [] r planned h =
    record { fresh = All-nil (Fresh entries plan copies (s ∷ steps)); apart = λ side i j d before within. absurd (omega (arith, within)) }
copies_are entries plan copies p (s ∷ steps) (logged ∷ log) r planned h =
    let u = and_parts (is_below p (step_place s)) (rises (step_place s) (map step_place steps)) r in
    let a = and_parts (list_all (λ c. not (is_taken entries plan copies c)) (copy_of s logged)) (list_all (λ b. b) (log_agrees entries plan (copies ++ copy_of s logged) steps log)) h in
    let later : AreIn steps plan = λ side uid t. planned side uid (or_right (is_source_of side uid s) (list_any (is_source_of side uid) steps) t) in
    one_step entries plan copies s logged steps (entries_of_copies steps log) u.1 planned a.0
    (copies_are entries plan (copies ++ copy_of s logged) (step_place s) steps log u.1 later a.1)
