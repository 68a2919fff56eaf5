-- What is found by halving in a list that rises by the places of its elements.
use Rattle.std.proofs.Common.{◌≡◌, ◌∙◌, inl, inr, ℕ, ◌<◌, ◌≤◌, Bool, true, false, List, [], ◌∷◌, map, length, get_or, refl, sym, ap, subst, arith, Option, ltb}
use Rattle.std.specs.Prelude.{All, AllPairs, nat_lt, ◌==◌}
use Rattle.std.specs.List.{list_any, AllWithin}
use Rattle.std.specs.List.Sorted.{IsNonDecreasingBy, IsPartitionedBy}
use Rattle.std.specs.Option.{unwrap_or}
use Rattle.std.proofs.lemmas.Bool.{and_from, and_parts, both_ways, cases_lt, eq-eqb, eqb-false, false_from_ne_true, lt-ltb, ltb-false, ltb-true, ne_eqb, or_left, or_right}
use Rattle.std.proofs.lemmas.List.{get_or_read}
use Rattle.std.proofs.lemmas.List.Elements.{All-cons, All-nil, All-weaker}
use Rattle.std.proofs.lemmas.List.Folds.{list_any_none, list_any_at}
use Rattle.std.proofs.lemmas.List.Kept.{AllPairs-cons}
use Rattle.mailcore.specs.declared.side.Side.TheVariants.{Far, Near}
use Rattle.rules.specs.declared.entry.Entry.{Entry}
use Rattle.rules.specs.Entries.{ArePairs, EntryBefore, uid_of}
use Rattle.rules.specs.declared.plan.Note.TheVariants as note
use Rattle.sync_state.specs.JournalText.{note_place, is_below, rises}
use Rattle.book.specs.Agreement.{is_named, is_pair}
use Rattle.book.specs.PlacedLists.{entry_place}
use Rattle.book.proofs.CommittedPlaces.{pair_is}
use Rattle.book.proofs.CopiedUids.{below_trans, below_itself}

-- each stands below those after it
abbrev pub Rising : {X : Type 0} → (X → ℕ × ℕ × ℕ) → List X → Type 0
Rising place xs = AllPairs (λ a b. is_below (place a) (place b) ≡ true) xs

all_above : {X : Type 0} (place : X → ℕ × ℕ × ℕ) (p : ℕ × ℕ × ℕ) (xs : List X) → rises p (map place xs) ≡ true → All (λ x. is_below p (place x) ≡ true) xs
all_above {X} place p [] r = All-nil (λ (x : X). is_below p (place x) ≡ true)
all_above {X} place p (x ∷ xs) r =
    let u = and_parts (is_below p (place x)) (rises (place x) (map place xs)) r in
    All-cons (λ (y : X). is_below p (place y) ≡ true) x xs u.0
    (All-weaker (λ (y : X). is_below (place x) (place y) ≡ true) (λ (y : X). is_below p (place y) ≡ true)
    (λ y l. below_trans p (place x) (place y) u.0 l) xs (all_above place (place x) xs u.1))

below_by : (a b c d : ℕ) → a ≤ c → (a ≡ c → b < d) → is_below (9, a, b) (9, c, d) ≡ true
below_by a b c d first second = elim (cases_lt a c) [
  | inl less ↦ or_left (nat_lt a c) _ (lt-ltb a c less)
  | inr at_least ↦
      let same : a ≡ c = omega arith in
      or_right (nat_lt a c) _ (and_from (a == c) (nat_lt b d) (eq-eqb a c same) (lt-ltb b d (second same)))
]

-- the same of places of another kind
pub entry_below : (a b : Entry) → EntryBefore a b → is_below (entry_place a) (entry_place b) ≡ true
entry_below a b order = below_by (uid_of Far a) (uid_of Near a) (uid_of Far b) (uid_of Near b) order.0 order.1

pub rising_from : {X : Type 0} (place : X → ℕ × ℕ × ℕ) (p : ℕ × ℕ × ℕ) (xs : List X) → rises p (map place xs) ≡ true → Rising place xs
rising_from {X} place p [] r = λ i j d before within. absurd (omega (arith, within))
rising_from {X} place p (x ∷ xs) r =
    let u = and_parts (is_below p (place x)) (rises (place x) (map place xs)) r in
    AllPairs-cons (λ (a b : X). is_below (place a) (place b) ≡ true) x xs (all_above place (place x) xs u.1) (rising_from place (place x) xs u.1)

-- entries stand in the order of their places
pub entries_rising : (es : List Entry) → ArePairs es → Rising entry_place es
entries_rising es pairs i j d less within =
    let before : EntryBefore (get_or es i d) (get_or es j d) = pairs.ordered i j d less within in
    entry_below (get_or es i d) (get_or es j d) before

-- those below a place stand in front
pub parted : {X : Type 0} (place : X → ℕ × ℕ × ℕ) (k : ℕ × ℕ × ℕ) (xs : List X) → Rising place xs → IsPartitionedBy (λ x. is_below (place x) k) xs
parted {X} place k xs rising i j d order within h = elim (cases_lt i j) [
  | inl less ↦ below_trans (place (get_or xs i d)) (place (get_or xs j d)) k (rising i j d less within) h
  | inr at_least ↦
      let same : j ≡ i = omega arith in
      subst (λ (n : ℕ). is_below (place (get_or xs n d)) k ≡ true) same h
]

module _ {X : Type 0} (place : X → ℕ × ℕ × ℕ) (k : ℕ × ℕ × ℕ) (xs : List X) (at : ℕ) (rising : Rising place xs)
    (below : AllWithin (λ x. is_below (place x) k ≡ true) xs 0 at) (above : AllWithin (λ x. is_below (place x) k ≡ false) xs at (length xs))
    (test : X → Bool) (only : (x : X) → test x ≡ true → place x ≡ k) where
  before_fails : (i : ℕ) (d : X) → i < at → i < length xs → test (get_or xs i d) ≡ false
  before_fails i d less within = false_from_ne_true (test (get_or xs i d)) (λ t.
      below_itself k (subst (λ (p : ℕ × ℕ × ℕ). is_below p k ≡ true) (only (get_or xs i d) t) (below i d (omega arith) less)))

  after_fails : (i : ℕ) (d : X) → at < i → i < length xs → test (get_or xs i d) ≡ false
  after_fails i d more within = false_from_ne_true (test (get_or xs i d)) (λ t.
      both_ways _ (above at d (omega arith) (omega arith))
      (subst (λ (p : ℕ × ℕ × ℕ). is_below (place (get_or xs at d)) p ≡ true) (only (get_or xs i d) t) (rising at i d more within)))

  pub none_stands : length xs ≤ at → list_any test xs ≡ false
  none_stands past = list_any_none test xs (λ i d within. before_fails i d (omega arith) within)

  by_test : (x : X) (b : Bool) → test x ≡ b → at < length xs → x ≡ get_or xs at x → list_any test xs ≡ b
  by_test x true t within is = list_any_at test xs at x within (subst (λ (y : X). test y ≡ true) is t)
  by_test x false t within is = list_any_none test xs (λ i d inside. elim (cases_lt i at) [
    | inl less ↦ before_fails i d less inside
    | inr at_least ↦ elim (cases_lt at i) [
      | inl more ↦ after_fails i d more inside
      | inr upto ↦
          let same : i ≡ at = omega arith in
          let here : x ≡ get_or xs i d = get_or_read xs at x within is d ∙ ap (λ (n : ℕ). get_or xs n d) (sym same) in
          subst (λ (y : X). test y ≡ false) here t
    ]
  ])

  pub one_stands : (x : X) → at < length xs → x ≡ get_or xs at x → list_any test xs ≡ test x
  one_stands x within is = by_test x (test x) refl within is

-- ---- of entries

pub pair_place : (far near : Option ℕ) (e : Entry) → is_pair far near e ≡ true → entry_place e ≡ note_place (note.Drop far near)
pair_place far near e h =
    let same = pair_is far near e h in
    ap (λ (x : Option ℕ). (9, unwrap_or x 0, unwrap_or e.near 0)) same.0 ∙ ap (λ (x : Option ℕ). (9, unwrap_or far 0, unwrap_or x 0)) same.1

-- entries rise by their far UIDs
pub far_rising : (es : List Entry) → ArePairs es → IsNonDecreasingBy (λ e. uid_of Far e) es
far_rising es pairs i j d order within = elim (cases_lt i j) [
  | inl less ↦ let before : EntryBefore (get_or es i d) (get_or es j d) = pairs.ordered i j d less within in before.0
  | inr at_least ↦
      let same : i ≡ j = omega arith in
      let alike : uid_of Far (get_or es i d) ≡ uid_of Far (get_or es j d) = ap (λ (k : ℕ). uid_of Far (get_or es k d)) same in
      omega arith
]

module _ (es : List Entry) (at u : ℕ) (rising : IsNonDecreasingBy (λ e. uid_of Far e) es)
    (below : AllWithin (λ e. ltb (uid_of Far e) u ≡ true) es 0 at) (above : AllWithin (λ e. ltb (uid_of Far e) u ≡ false) es at (length es)) where
  other_before : (i : ℕ) (d : Entry) → i < at → (uid_of Far (get_or es i d) == u) ≡ false
  other_before i d less = ne_eqb (uid_of Far (get_or es i d)) u (λ e.
      let l : uid_of Far (get_or es i d) < u = ltb-true (uid_of Far (get_or es i d)) u (below i d (omega arith) less) in
      absurd (omega (arith, l, e)))

  pub far_none : length es ≤ at → is_named es Far u ≡ false
  far_none past = list_any_none (λ (e : Entry). uid_of Far e == u) es (λ i d within. other_before i d (omega arith))

  far_by_test : (x : Entry) (b : Bool) → (uid_of Far x == u) ≡ b → at < length es → x ≡ get_or es at x → is_named es Far u ≡ b
  far_by_test x true t within is = list_any_at (λ (e : Entry). uid_of Far e == u) es at x within (subst (λ (y : Entry). (uid_of Far y == u) ≡ true) is t)
  far_by_test x false t within is = list_any_none (λ (e : Entry). uid_of Far e == u) es (λ i d inside. elim (cases_lt i at) [
    | inl less ↦ other_before i d less
    | inr at_least ↦ ne_eqb (uid_of Far (get_or es i d)) u (λ e.
        let here : uid_of Far x ≡ uid_of Far (get_or es at d) = ap (λ (y : Entry). uid_of Far y) (get_or_read es at x within is d) in
        let up : u ≤ uid_of Far (get_or es at d) = ltb-false (uid_of Far (get_or es at d)) u (above at d (omega arith) within) in
        let order : uid_of Far (get_or es at d) ≤ uid_of Far (get_or es i d) = rising at i d at_least inside in
        eqb-false (uid_of Far x) u t (omega (arith, here, up, order, e)))
  ])

  pub far_here : (x : Entry) → at < length es → x ≡ get_or es at x → is_named es Far u ≡ (uid_of Far x == u)
  far_here x within is = far_by_test x (uid_of Far x == u) refl within is
