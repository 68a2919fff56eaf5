-- What a walk over the entries reaches.
use Rattle.std.proofs.Common.{◌≡◌, ◌∙◌, inl, inr, ℕ, ◌<◌, ◌≤◌, Bool, true, false, List, [], ◌∷◌, length, get_or, refl, sym, subst, arith, Some}
use Rattle.std.specs.Prelude.{AllPairs, map}
use Rattle.std.specs.List.{list_any}
use Rattle.std.specs.List.Sorted.{IsPartitionedBy}
use Rattle.std.proofs.lemmas.Bool.{both_ways, cases_lt, false≢true, false_from_ne_true}
use Rattle.std.proofs.lemmas.Bool.Decides.{nat_tests}
use Rattle.std.proofs.lemmas.List.{get_or_read}
use Rattle.std.proofs.lemmas.List.Folds.{list_any_none, list_any_at}
use Rattle.rules.specs.declared.entry.Entry.{Entry}
use Rattle.rules.specs.Entries.{EntryBefore, is_full}
use Rattle.rules.specs.declared.plan.Note.{Note}
use Rattle.rules.specs.declared.plan.Note.TheVariants as note
use Rattle.sync_state.specs.JournalText.{bottom, is_below, note_place, rises}
use Rattle.sync_state.specs.declared.journal.Journal.{Journal}
use Rattle.book.specs.declared.changes.UidPair.{UidPair}
use Rattle.book.specs.declared.changes.Gones.{Gones}
use Rattle.book.specs.declared.changes.Walk.{Walk}
use Rattle.book.specs.Changes.{HasPassed, PairNotAfter, Passed, Reached, gone_place, is_of, pair_place, record_place}
use Rattle.book.specs.Committed.{drops, recorded}
use Rattle.book.specs.PlacedLists.{entry_place}
use Rattle.book.proofs.CommittedPlaces.{pair_is, recorded_here, recorded_none, recorded_nowhere}
use Rattle.book.proofs.CopiedUids.{below_itself, below_trans}
use Rattle.book.proofs.PlacedLemmas.{entry_below, none_stands, one_stands, rising_from, pair_place as at_place}

-- ---- places

-- the walk stands where the first is that is not below the place
pub reached_from : {X : Type 0} (place : X → ℕ × ℕ × ℕ) (k : ℕ × ℕ × ℕ) (xs : List X) (at : ℕ) → IsPartitionedBy (λ x. is_below (place x) k) xs → Passed place k xs at
    → (at < length xs → (d : X) → is_below (place (get_or xs at d)) k ≡ false) → Reached place k xs at
reached_from {X} place k xs at parted below stop = (
  below,
  λ i d from within. false_from_ne_true (is_below (place (get_or xs i d)) k) (λ h.
      both_ways _ (stop (omega arith) d) (parted at i d from within h)),
)

passed_on : {X : Type 0} (place : X → ℕ × ℕ × ℕ) (k l : ℕ × ℕ × ℕ) (xs : List X) (at : ℕ) → is_below k l ≡ true → Passed place k xs at → Passed place l xs at
passed_on {X} place k l xs at less passed = λ i d from within. below_trans (place (get_or xs i d)) k l (passed i d from within) less

-- what was passed for an entry is passed for those after it
pub walk_on : (j : Journal) (gones : Gones) (a b : Entry) (walk : Walk) → EntryBefore a b → HasPassed j gones a walk → HasPassed j gones b walk
walk_on j gones a b walk order h =
    let less = entry_below a b order in
    record {
      far_gones = passed_on pair_place (gone_place a) (gone_place b) gones.far.items walk.far_gones less h.far_gones;
      near_gones = passed_on pair_place (gone_place a) (gone_place b) gones.near.items walk.near_gones less h.near_gones;
      records = passed_on note_place (record_place a) (record_place b) j.plan.notes walk.records less h.records;
      drops = passed_on note_place (entry_place a) (entry_place b) j.plan.notes walk.drops less h.drops;
    }

-- ---- notes

pub drop_place : (e : Entry) (n : Note) → drops e n ≡ true → note_place n ≡ entry_place e
drop_place e (note.Record f n flags) h = absurd (false≢true h)
drop_place e (note.Drop f n) h = sym (at_place f n e h)

pub recorded_at : (e : Entry) (notes : List Note) (at : ℕ) → rises bottom (map note_place notes) ≡ true → (is_full e ≡ true → Reached note_place (record_place e) notes at)
    → (n : Note) → at < length notes → n ≡ get_or notes at n → recorded e notes ≡ recorded e (n ∷ [])
recorded_at e notes at rise reached n within is = by_sides (is_full e) refl where
  by_sides : (b : Bool) → is_full e ≡ b → recorded e notes ≡ recorded e (n ∷ [])
  by_sides true full =
      let r = reached full in
      recorded_here e notes n (λ test only. one_stands note_place (record_place e) notes at (rising_from note_place bottom notes rise) r.0 r.1 test only n within is)
  by_sides false half = recorded_nowhere e notes half ∙ sym (recorded_nowhere e (n ∷ []) half)

pub recorded_past : (e : Entry) (notes : List Note) (at : ℕ) → rises bottom (map note_place notes) ≡ true → (is_full e ≡ true → Reached note_place (record_place e) notes at)
    → length notes ≤ at → recorded e notes ≡ e.flags
recorded_past e notes at rise reached past = by_sides (is_full e) refl where
  by_sides : (b : Bool) → is_full e ≡ b → recorded e notes ≡ e.flags
  by_sides true full =
      let r = reached full in
      recorded_none e notes (λ test only. none_stands note_place (record_place e) notes at (rising_from note_place bottom notes rise) r.0 r.1 test only past)
  by_sides false half = recorded_nowhere e notes half

-- ---- pairs

below_before : (a b : UidPair) (k : ℕ × ℕ × ℕ) → PairNotAfter a b → is_below (pair_place b) k ≡ true → is_below (pair_place a) k ≡ true
below_before a b (x, y, z) order h = grind (arith, nat_tests, order.0, order.1, h)

pub pairs_parted : (k : ℕ × ℕ × ℕ) (ps : List UidPair) → AllPairs PairNotAfter ps → IsPartitionedBy (λ p. is_below (pair_place p) k) ps
pairs_parted k ps order i j d upto within h = elim (cases_lt i j) [
  | inl less ↦ below_before (get_or ps i d) (get_or ps j d) k (order i j d less within) h
  | inr at_least ↦
      let same : j ≡ i = omega arith in
      subst (λ (n : ℕ). is_below (pair_place (get_or ps n d)) k ≡ true) same h
]

of_place : (e : Entry) (p : UidPair) → is_of e p ≡ true → pair_place p ≡ gone_place e
of_place e p h =
    let same = pair_is (Some p.far) (Some p.near) e h in
    rw (same.0, same.1) refl

-- pairs that stand in order, at and after the place of an entry
same_pair : (e : Entry) (a b : UidPair) → is_of e b ≡ true → PairNotAfter a b → is_below (pair_place a) (gone_place e) ≡ false → is_of e a ≡ true
same_pair e a b here order h =
    let same = pair_is (Some b.far) (Some b.near) e here in
    let place : pair_place b ≡ gone_place e = of_place e b here in
    let above : is_below (pair_place a) (pair_place b) ≡ false = subst (λ (p : ℕ × ℕ × ℕ). is_below (pair_place a) p ≡ false) (sym place) h in
    let far : a.far ≡ b.far = grind (arith, nat_tests, order.0, above) in
    let near : a.near ≡ b.near = grind (arith, nat_tests, order.1, far, above) in
    rw (far, near) here

module _ (e : Entry) (ps : List UidPair) (at : ℕ) (order : AllPairs PairNotAfter ps) (reached : Reached pair_place (gone_place e) ps at) where
  not_before : (i : ℕ) (d : UidPair) → i < at → is_of e (get_or ps i d) ≡ false
  not_before i d less = false_from_ne_true (is_of e (get_or ps i d)) (λ h.
      below_itself (gone_place e) (subst (λ (p : ℕ × ℕ × ℕ). is_below p (gone_place e) ≡ true) (of_place e (get_or ps i d) h) (reached.0 i d (omega arith) less)))

  pub none_gone : length ps ≤ at → list_any (is_of e) ps ≡ false
  none_gone past = list_any_none (is_of e) ps (λ i d within. not_before i d (omega arith))

  pub one_gone : (p : UidPair) → at < length ps → p ≡ get_or ps at p → list_any (is_of e) ps ≡ is_of e p
  one_gone p within is = by_test (is_of e p) refl where
    by_test : (b : Bool) → is_of e p ≡ b → list_any (is_of e) ps ≡ b
    by_test true t = list_any_at (is_of e) ps at p within (subst (λ (q : UidPair). is_of e q ≡ true) is t)
    by_test false t = list_any_none (is_of e) ps (λ i d inside. elim (cases_lt i at) [
      | inl less ↦ not_before i d less
      | inr at_least ↦ false_from_ne_true (is_of e (get_or ps i d)) (λ h.
          let first : p ≡ get_or ps at d = get_or_read ps at p within is d in
          let other : is_of e (get_or ps at d) ≡ false = subst (λ (q : UidPair). is_of e q ≡ false) first t in
          both_ways _ other (elim (cases_lt at i) [
            | inl more ↦ same_pair e (get_or ps at d) (get_or ps i d) h (order at i d more inside) (reached.1 at d (omega arith) within)
            | inr upto ↦
                let same : i ≡ at = omega arith in
                subst (λ (n : ℕ). is_of e (get_or ps n d) ≡ true) same h
          ]))
    ])
