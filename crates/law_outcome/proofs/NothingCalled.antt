-- Nothing is called for in the scene after a run, kind by kind.
use Rattle.std.proofs.Common.{◌≡◌, ℕ, ◌<◌, true, false, not, Option, refl, sym, ap, ap₂, ◌∙◌, inl, inr, arith}
use Rattle.std.specs.Prelude.{◌&&◌, ◌||◌, ◌==◌, unwrap_or}
use Rattle.std.proofs.lemmas.Bool.{both_ways, and_parts, and_from, and_cases, or_parts, or_from, not-true, not-false, not_from_true, eq-eqb, eqb-true, ne_eqb, false_from_ne_true, cond-false}
use Rattle.mailcore.specs.declared.side.Side.{Side}
use Rattle.mailcore.specs.declared.side.Side.TheVariants.{Far, Near}
use Rattle.mailcore.specs.declared.side.Direction.{Direction}
use Rattle.mailcore.specs.declared.side.Direction.TheVariants.{Pull, Push}
use Rattle.mailcore.specs.FlagSet.{minus}
use Rattle.mailcore.specs.Sides.{source, target}
use Rattle.rules.specs.declared.entry.Entry.{Entry}
use Rattle.rules.specs.declared.entry.ListedPair.{ListedPair}
use Rattle.rules.specs.Propagation.{Propagation, New, Gone, Flags, Expunge, Record, Drop}
use Rattle.rules.specs.FlagRule.{recorded_after}
use Rattle.rules.specs.Options.{goes, covers}
use Rattle.rules.specs.Entries.{uid_of}
use Rattle.rules.specs.Scene.{Scene, highest, is_listed, is_paired}
use Rattle.rules.specs.Called.{called, of_pair, differ_by, is_gone, is_expunged, vanishes, before, after, recorded}
use Rattle.rules.specs.Outcome.{entry_after}
use Rattle.rules.proofs.Walks.{list_any_from}
use Rattle.rules.proofs.LookUps.{full_from, pair_says, entry_of, pair_of_entry}
use Rattle.law_outcome.proofs.Unpaired.{new_says, new_called}
use Rattle.law_outcome.proofs.Places.{IsGone, gone_says}
use Rattle.law_outcome.proofs.After.{IsKept, IsFresh, IsAfter, PairIsSettled, not_expunged, after_uncovered, listed_alike, fresh_listed, whole, whole_uid, pair_settled}

-- ---- new messages and expunges

no_new : (s t : Scene) → IsAfter s t → (d : Direction) (u : ℕ) → called t (New d u) ≡ true → ⊥
no_new s t a d u h =
    let r = new_called t d u h in
    let n = new_says t d r.0 r.3 in
    elim (a.items d (sym (ap (λ o. goes o.cells.new d) a.options) ∙ n.goes) r.0 r.1) [
      | inl below ↦ let above : highest d t < r.0.uid = n.above in absurd (omega arith)
      | inr paired ↦ both_ways (is_paired t (source d) r.0.uid) n.unpaired paired
    ]

no_expunge : (s t : Scene) → IsAfter s t → (side : Side) (u : ℕ) → called t (Expunge side u) ≡ true → ⊥
no_expunge s t a side u h = both_ways (is_expunged t side u) (not_expunged t side u (after_uncovered s t a side)) h

-- ---- messages whose counterpart has gone

kept_stays : (s t : Scene) (e : Entry) (d : Direction) → IsAfter s t → IsKept s e → IsGone t d e → ⊥
kept_stays s t e d a k g =
    let old : Entry = k.old in
    let w = whole s e k g.full in
    let same : (side : Side) → is_listed s side (uid_of side old) ≡ is_listed t side (uid_of side e) = λ side. sym (listed_alike s t a side old k.there) ∙ ap (λ u. is_listed t side u) (whole_uid s old e w side) in
    let on : goes s.options.cells.gone d ≡ true = sym (ap (λ o. goes o.cells.gone d) a.options) ∙ g.goes in
    both_ways (is_gone s d old) (w.gone_in d)
    (and_from _ _ (and_from _ _ (and_from _ _ on (full_from old (uid_of Far e) (uid_of Near e) w.far w.near)) (ap not (same (source d)) ∙ g.left)) (same (target d) ∙ g.stays))

no_gone : (s t : Scene) → IsAfter s t → (d : Direction) (f n : ℕ) → called t (Gone d f n) ≡ true → ⊥
no_gone s t a d f n h =
    let r = entry_of t f n (is_gone t d) h in
    let g = gone_says t d r.0 r.4 in
    elim (a.entries r.0 r.1) [
      | inl kept ↦ kept_stays s t r.0 d a kept g
      | inr fresh ↦ both_ways (not (is_listed t (source d) (uid_of (source d) r.0))) (not_from_true _ (fresh_listed t r.0 fresh (source d))) g.left
    ]

-- ---- flags and records

after_is_before : (s : Scene) (d : Direction) (p : ListedPair) → PairIsSettled s p → goes s.options.cells.flags d ≡ true → after d p ≡ before d p
after_is_before s Pull p h on = h.pulled on
after_is_before s Push p h on = h.pushed on

no_flags : (s t : Scene) → IsAfter s t → (d : Direction) (f n set cleared : ℕ) → called t (Flags d f n set cleared) ≡ true → ⊥
no_flags s t a d f n set cleared h =
    let c = and_parts (goes t.options.cells.flags d) (of_pair t f n (λ p. differ_by set cleared (before d p) (after d p))) h in
    let r = pair_of_entry t f n (λ p. differ_by set cleared (before d p) (after d p)) c.1 in
    let p : ListedPair = r.1 in
    let v = and_parts (not (before d p == after d p) && set == minus (after d p) (before d p)) (cleared == minus (before d p) (after d p)) r.6 in
    let w = and_parts (not (before d p == after d p)) (set == minus (after d p) (before d p)) v.0 in
    let settled = pair_settled s t r.0 p a r.2 (pair_says t r.0 p r.3) in
    let same = after_is_before s d p settled (sym (ap (λ o. goes o.cells.flags d) a.options) ∙ c.0) in
    both_ways (before d p == after d p) (not-true (before d p == after d p) w.0) (eq-eqb (before d p) (after d p) (sym same))

no_record : (s t : Scene) → IsAfter s t → (f n w : ℕ) → called t (Record f n w) ≡ true → ⊥
no_record s t a f n w h =
    let r = pair_of_entry t f n (λ p. w == recorded t p && not (w == p.recorded)) h in
    let p : ListedPair = r.1 in
    let v = and_parts (w == recorded t p) (not (w == p.recorded)) r.6 in
    let settled = pair_settled s t r.0 p a r.2 (pair_says t r.0 p r.3) in
    let on : (d : Direction) → goes t.options.cells.flags d ≡ goes s.options.cells.flags d = λ d. ap (λ o. goes o.cells.flags d) a.options in
    let same : recorded t p ≡ p.recorded = ap₂ (λ x y. recorded_after x y p.far_flags p.near_flags p.recorded) (on Pull) (on Push) ∙ settled.kept in
    both_ways (w == p.recorded) (not-true (w == p.recorded) v.1) (eq-eqb w p.recorded (eqb-true w (recorded t p) v.0 ∙ same))

-- ---- drops

-- what is so of a side of an entry that is left
record IsLeft (s : Scene) (side : Side) (u : ℕ) : Type 0 where
  named : (u == 0) ≡ false
  listed : is_listed s side u ≡ true

left_says : (s : Scene) (side : Side) (u : ℕ) → vanishes s side u ≡ false → IsLeft s side u
left_says s side u h =
    let a = or_parts (u == 0 || not (is_listed s side u)) (is_expunged s side u) h in
    let b = or_parts (u == 0) (not (is_listed s side u)) a.0 in
    record { named = b.0; listed = not-false (is_listed s side u) b.1 }

left_stays : (s : Scene) (side : Side) (u : ℕ) → covers s.options.expunge side ≡ false → IsLeft s side u → vanishes s side u ≡ false
left_stays s side u h l = or_from (u == 0 || not (is_listed s side u)) (is_expunged s side u) (or_from (u == 0) (not (is_listed s side u)) l.named (not_from_true (is_listed s side u) l.listed)) (not_expunged s side u h)

-- what is left on the source is not gone
not_gone : (s : Scene) (d : Direction) (e : Entry) → is_listed s (source d) (uid_of (source d) e) ≡ true → is_gone s d e ≡ false
not_gone s d e h = false_from_ne_true (is_gone s d e) (λ g. both_ways (not (is_listed s (source d) (uid_of (source d) e))) (not_from_true _ h) (gone_says s d e g).left)

uid_stays : (s : Scene) (e : Entry) (side : Side) → is_listed s side (uid_of side e) ≡ true → uid_of side (entry_after s e) ≡ uid_of side e
uid_stays s e Far h = ap (λ (o : Option ℕ). unwrap_or o 0) (cond-false (is_gone s Pull e) _ e.far (not_gone s Pull e h))
uid_stays s e Near h = ap (λ (o : Option ℕ). unwrap_or o 0) (cond-false (is_gone s Push e) _ e.near (not_gone s Push e h))

-- a side of an old entry that is left before is left after
kept_side : (s t : Scene) (e : Entry) (side : Side) → IsAfter s t → (k : IsKept s e) → vanishes s side (uid_of side k.old) ≡ false → vanishes t side (uid_of side e) ≡ false
kept_side s t e side a k h =
    let old : Entry = k.old in
    let l = left_says s side (uid_of side old) h in
    let same : uid_of side e ≡ uid_of side old = ap (λ x. uid_of side x) (sym k.after) ∙ uid_stays s old side l.listed in
    ap (λ u. vanishes t side u) same
    ∙ left_stays t side (uid_of side old) (after_uncovered s t a side) (record { named = l.named; listed = listed_alike s t a side old k.there ∙ l.listed })

-- an old entry that is not dropped has a side that is left
kept_has_a_side : (s : Scene) (e : Entry) (k : IsKept s e) → (vanishes s Far (uid_of Far k.old) && vanishes s Near (uid_of Near k.old)) ≡ false
kept_has_a_side s e k =
    let f : ℕ = uid_of Far k.old in
    let n : ℕ = uid_of Near k.old in
    false_from_ne_true (vanishes s Far f && vanishes s Near n)
    (λ h. both_ways (called s (Drop f n)) k.stays
    (list_any_from (λ e. uid_of Far e == f && uid_of Near e == n && (vanishes s Far f && vanishes s Near n)) s.entries k.old k.there
    (and_from _ _ (and_from _ _ (eq-eqb f f refl) (eq-eqb n n refl)) h)))

fresh_side : (s t : Scene) (e : Entry) → IsAfter s t → IsFresh t e → vanishes t Far (uid_of Far e) ≡ false
fresh_side s t e a f =
    let positive : 0 < f.far_uid = f.positive in
    left_stays t Far (uid_of Far e) (after_uncovered s t a Far)
    (record { named = ap (λ (o : Option ℕ). unwrap_or o 0 == 0) f.far ∙ ne_eqb f.far_uid 0 (omega arith); listed = fresh_listed t e f Far })

no_drop : (s t : Scene) → IsAfter s t → (f n : ℕ) → called t (Drop f n) ≡ true → ⊥
no_drop s t a f n h =
    let r = entry_of t f n (λ e. vanishes t Far f && vanishes t Near n) h in
    let v = and_parts (vanishes t Far f) (vanishes t Near n) r.4 in
    let far : vanishes t Far (uid_of Far r.0) ≡ true = ap (λ u. vanishes t Far u) r.2 ∙ v.0 in
    let near : vanishes t Near (uid_of Near r.0) ≡ true = ap (λ u. vanishes t Near u) r.3 ∙ v.1 in
    elim (a.entries r.0 r.1) [
      | inl kept ↦ elim (and_cases _ _ (kept_has_a_side s r.0 kept)) [
        | inl left ↦ both_ways (vanishes t Far (uid_of Far r.0)) (kept_side s t r.0 Far a kept left) far
        | inr left ↦ both_ways (vanishes t Near (uid_of Near r.0)) (kept_side s t r.0 Near a kept left) near
      ]
      | inr fresh ↦ both_ways (vanishes t Far (uid_of Far r.0)) (fresh_side s t r.0 a fresh) far
    ]

-- ---- all kinds

not_called : (s t : Scene) → IsAfter s t → (q : Propagation) → called t q ≡ true → ⊥
not_called s t a (New d u) h = no_new s t a d u h
not_called s t a (Gone d f n) h = no_gone s t a d f n h
not_called s t a (Flags d f n set cleared) h = no_flags s t a d f n set cleared h
not_called s t a (Expunge side u) h = no_expunge s t a side u h
not_called s t a (Record f n w) h = no_record s t a f n w h
not_called s t a (Drop f n) h = no_drop s t a f n h

pub nothing_called : (s t : Scene) → IsAfter s t → (q : Propagation) → called t q ≡ false
nothing_called s t a q = false_from_ne_true (called t q) (not_called s t a q)
