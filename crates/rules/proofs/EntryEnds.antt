-- An entry may follow others in order if it is above the last one and its near UID is free.
use Rattle.std.proofs.Common.{◌≡◌, ℕ, suc, ◌-◌, ◌<◌, ◌≤◌, Bool, true, false, List, [], ◌∷◌, length, Option, Some, None, refl, sym, ap, ◌∙◌, subst, inl, inr, arith}
use Rattle.std.specs.Prelude.{AllPairs, not, ◌&&◌, ◌||◌, ◌==◌, nat_lt, is_none, is_some, unwrap_or}
use Rattle.std.specs.List.{list_all, list_any, slice_get}
use Rattle.std.proofs.lemmas.Bool.{both_ways, cases_Bool, false_from_ne_true, true≢false, false≢true, and_parts, and_from, or_parts, or_from, or_cases, or_left, or_right, not-true, not_from_false, eqb-true, eq-eqb, ne_eqb, ltb-true, lt-ltb, cases_eq, cases_lt}
use Rattle.mailcore.specs.declared.side.Side.TheVariants.{Far, Near}
use Rattle.rules.specs.declared.entry.Entry.{Entry}
use Rattle.rules.specs.Entries.{ArePairs, EntryBefore, uid_of, is_same, follows}
use Rattle.rules.specs.EntryParts.{is_above, is_above_last, is_near_free}
use Rattle.rules.proofs.EntryLemmas.{once}

-- ---- near UIDs

apart_none : (x : Option ℕ) → (not (is_same x None) || is_none x) ≡ true
apart_none None = refl
apart_none (Some u) = refl

apart_from : (x : Option ℕ) (v : ℕ) → is_same x (Some v) ≡ false → (not (is_same x (Some v)) || is_none x) ≡ true
apart_from x v h = or_left (not (is_same x (Some v))) (is_none x) (not_from_false (is_same x (Some v)) h)

other_from : (x : Option ℕ) (v : ℕ) → (not (is_same x (Some v)) || is_none x) ≡ true → is_same x (Some v) ≡ false
other_from None v h = refl
other_from (Some u) v h = elim (or_cases (not (u == v)) false h) [
  | inl other ↦ not-true (u == v) other
  | inr none ↦ absurd (false≢true none)
]

free_parts : (y : Option ℕ) (a : Entry) (es : List Entry) → is_near_free y (a ∷ es) ≡ true → ((not (is_same a.near y) || is_none a.near) ≡ true) × (is_near_free y es ≡ true)
free_parts None a es h = (apart_none a.near, refl)
free_parts (Some v) a es h =
    let named : Entry → Bool = λ e. is_same e.near (Some v) in
    let u = or_parts (is_same a.near (Some v)) (list_any named es) (not-true (is_same a.near (Some v) || list_any named es) h) in
    (apart_from a.near v u.0, not_from_false (list_any named es) u.1)

none_named : (e : Entry) (v : ℕ) → e.near ≡ Some v → (es : List Entry) → list_all (λ a. follows a e) es ≡ true → list_any (λ a. is_same a.near (Some v)) es ≡ false
none_named e v is [] h = refl
none_named e v is (a ∷ es) h =
    let u = and_parts (follows a e) (list_all (λ b. follows b e) es) h in
    let near = (and_parts (is_above a e) (not (is_same a.near e.near) || is_none a.near) u.0).1 in
    or_from (is_same a.near (Some v)) (list_any (λ b. is_same b.near (Some v)) es)
    (other_from a.near v (subst (λ (y : Option ℕ). (not (is_same a.near y) || is_none a.near) ≡ true) is near)) (none_named e v is es u.1)

all_free : (e : Entry) (es : List Entry) (y : Option ℕ) → e.near ≡ y → list_all (λ a. follows a e) es ≡ true → is_near_free y es ≡ true
all_free e es None is h = refl
all_free e es (Some v) is h = not_from_false (list_any (λ a. is_same a.near (Some v)) es) (none_named e v is es h)

-- ---- the last one

last_is : (a b : Entry) (es : List Entry) → slice_get (a ∷ b ∷ es) (length (a ∷ b ∷ es) - 1) ≡ slice_get (b ∷ es) (length (b ∷ es) - 1)
last_is a b es = let e : length (a ∷ b ∷ es) - 1 ≡ suc (length (b ∷ es) - 1) = omega arith in ap (λ (n : ℕ). slice_get (a ∷ b ∷ es) n) e

all_above : (e : Entry) (es : List Entry) → list_all (λ a. follows a e) es ≡ true → is_above_last (slice_get es (length es - 1)) e ≡ true
all_above e [] h = refl
all_above e (a ∷ []) h =
    let u = and_parts (follows a e) true h in
    (and_parts (is_above a e) (not (is_same a.near e.near) || is_none a.near) u.0).0
all_above e (a ∷ b ∷ es) h =
    let u = and_parts (follows a e) (list_all (λ x. follows x e) (b ∷ es)) h in
    subst (λ (o : Option Entry). is_above_last o e ≡ true) (sym (last_is a b es)) (all_above e (b ∷ es) u.1)

-- ---- the way back

-- a far UID is not 0
abbrev pub IsPositive : Entry → Type 0
IsPositive e = (uid : ℕ) → e.far ≡ Some uid → 0 < uid

before_from : (m n k l : ℕ) → (nat_lt m n || (m == n && nat_lt k l)) ≡ true → (m ≤ n) × (m ≡ n → k < l)
before_from m n k l h = elim (or_cases (nat_lt m n) (m == n && nat_lt k l) h) [
  | inl below ↦ let b : m < n = ltb-true m n below in (omega arith, λ e. absurd (omega (arith, e)))
  | inr here ↦
      let w = and_parts (m == n) (nat_lt k l) here in
      let e : m ≡ n = eqb-true m n w.0 in
      let b : k < l = ltb-true k l w.1 in
      (omega arith, λ _. b)
]

from_before : (m n k l : ℕ) → m ≤ n → (m ≡ n → k < l) → (nat_lt m n || (m == n && nat_lt k l)) ≡ true
from_before m n k l le next = elim (cases_lt m n) [
  | inl below ↦ or_left (nat_lt m n) (m == n && nat_lt k l) (lt-ltb m n below)
  | inr above ↦
      let e : m ≡ n = omega arith in
      or_right (nat_lt m n) (m == n && nat_lt k l) (and_from (m == n) (nat_lt k l) (eq-eqb m n e) (lt-ltb k l (next e)))
]

far_from : (x y : Option ℕ) → (x ≡ y → x ≡ None) → (not (is_same x y) || is_none x) ≡ true
far_from None y h = or_right (not (is_same None y)) true refl
far_from (Some u) None h = refl
far_from (Some u) (Some v) h = elim (cases_eq u v) [
  | inl same ↦ absurd (true≢false (ap is_some (h (ap Some same))))
  | inr other ↦ or_left (not (u == v)) false (not_from_false (u == v) (ne_eqb u v other))
]

far_between : (x y z : Option ℕ) → unwrap_or x 0 ≤ unwrap_or y 0 → unwrap_or y 0 ≤ unwrap_or z 0 → (y ≡ z → y ≡ None) → ((uid : ℕ) → z ≡ Some uid → 0 < uid) → x ≡ z → x ≡ None
far_between None y z a b h positive e = refl
far_between (Some u) y None a b h positive e = e
far_between (Some u) None (Some w) a b h positive e =
    let same = ap (λ (o : Option ℕ). unwrap_or o 0) e in
    let p = positive w refl in
    absurd (omega (arith, a, same, p))
far_between (Some u) (Some v) (Some w) a b h positive e =
    let same = ap (λ (o : Option ℕ). unwrap_or o 0) e in
    let here : v ≡ w = omega (arith, a, b, same) in
    absurd (true≢false (ap is_some (h (ap Some here))))

above_before : (a b e : Entry) → EntryBefore a b → is_above b e ≡ true → IsPositive e → is_above a e ≡ true
above_before a b e before above positive =
    let u = and_parts (nat_lt (uid_of Far b) (uid_of Far e) || (uid_of Far b == uid_of Far e && nat_lt (uid_of Near b) (uid_of Near e)))
    (not (is_same b.far e.far) || is_none b.far) above in
    let next = before_from (uid_of Far b) (uid_of Far e) (uid_of Near b) (uid_of Near e) u.0 in
    and_from (nat_lt (uid_of Far a) (uid_of Far e) || (uid_of Far a == uid_of Far e && nat_lt (uid_of Near a) (uid_of Near e))) (not (is_same a.far e.far) || is_none a.far)
    (from_before (uid_of Far a) (uid_of Far e) (uid_of Near a) (uid_of Near e) (omega (arith, before.0, next.0))
    (λ same.
    let first : uid_of Far a ≡ uid_of Far b = omega (arith, before.0, next.0, same) in
    let second : uid_of Far b ≡ uid_of Far e = omega (arith, first, same) in
    omega (arith, before.1 first, next.1 second)))
    (far_from a.far e.far (far_between a.far b.far e.far before.0 next.0 (once b.far e.far u.1) positive))

all_follow : (e : Entry) (es : List Entry) → AllPairs EntryBefore es → is_above_last (slice_get es (length es - 1)) e ≡ true → is_near_free e.near es ≡ true
    → (0 < length es → IsPositive e) → list_all (λ a. follows a e) es ≡ true
all_follow e [] ordered above free positive = refl
all_follow e (a ∷ []) ordered above free positive =
    let near = (free_parts e.near a [] free).0 in
    and_from (follows a e) true (and_from (is_above a e) (not (is_same a.near e.near) || is_none a.near) above near) refl
all_follow e (a ∷ b ∷ es) ordered above free positive =
    let parts = free_parts e.near a (b ∷ es) free in
    let later : AllPairs EntryBefore (b ∷ es) = λ i j d before within. ordered (suc i) (suc j) d (omega arith) (omega arith) in
    let rest = all_follow e (b ∷ es) later (subst (λ (o : Option Entry). is_above_last o e ≡ true) (last_is a b es) above) parts.1 (λ _. positive (omega arith)) in
    let next = (and_parts (follows b e) (list_all (λ x. follows x e) es) rest).0 in
    let above_b = (and_parts (is_above b e) (not (is_same b.near e.near) || is_none b.near) next).0 in
    let first : EntryBefore a b = ordered 0 1 a (omega arith) (omega arith) in
    and_from (follows a e) (list_all (λ x. follows x e) (b ∷ es))
    (and_from (is_above a e) (not (is_same a.near e.near) || is_none a.near) (above_before a b e first above_b (positive (omega arith))) parts.0) rest

-- ---- what the code asks

pub follow_as_free : (e : Entry) (es : List Entry) → ArePairs es → is_above_last (slice_get es (length es - 1)) e ≡ true → (0 < length es → IsPositive e)
    → is_near_free e.near es ≡ list_all (λ a. follows a e) es
follow_as_free e es pairs above positive = elim (cases_Bool (is_near_free e.near es)) [
  | inl free ↦ free ∙ sym (all_follow e es pairs.ordered above free positive)
  | inr taken ↦ taken ∙ sym (false_from_ne_true (list_all (λ a. follows a e) es) (λ h. both_ways (is_near_free e.near es) taken (all_free e es e.near refl h)))
]

pub follow_none : (e : Entry) (es : List Entry) → is_above_last (slice_get es (length es - 1)) e ≡ false → false ≡ list_all (λ a. follows a e) es
follow_none e es below =
    sym (false_from_ne_true (list_all (λ a. follows a e) es) (λ h. both_ways (is_above_last (slice_get es (length es - 1)) e) below (all_above e es h)))
