-- Entries in order of which no two name one UID of a side are pairs.
use Rattle.std.proofs.Common.{◌≡◌, ℕ, suc, ◌<◌, inl, inr, Bool, true, false, ◌&&◌, eqb, ltb, List, [], ◌∷◌, ◌++◌, length, get_or, map, Option, Some, None, refl, sym, ap, ◌∙◌, arith}
use Rattle.std.specs.Prelude.{All, AllPairs}
use Rattle.std.specs.List.{IsDistinct}
use Rattle.std.specs.List.Sorted.{IsPermutation}
use Rattle.std.specs.Option.{is_some, unwrap_or}
use Rattle.std.proofs.lemmas.Bool.{true≢false, false≢true, and_left, and_right, and_cases, ltb-false, ne_eqb, eqb-false, le-ltb, cases_eq, cases_lt}
use Rattle.std.proofs.lemmas.List.{get_or-map, length-map}
use Rattle.std.proofs.lemmas.List.Elements.{All-head, All-tail, All-append}
use Rattle.std.proofs.lemmas.List.Kept.{AllPairs-cons}
use Rattle.std.proofs.lemmas.Map.Keys.{IsDistinct-from_apart, apart_from_distinct, IsDistinct-IsPermutation}
use Rattle.mailcore.specs.declared.side.Side.{Side}
use Rattle.mailcore.specs.declared.side.Side.TheVariants.{Far, Near}
use Rattle.rules.specs.declared.entry.Entry.{Entry}
use Rattle.rules.specs.Entries.{ArePairs, EntryBefore, uid_of, has_a_side}
use Rattle.sync_state.specs.Words.{IsUidOrNone}
use Rattle.sync_state.specs.declared.version.Version.TheVariants.{Two}
use Rattle.sync_state.specs.StateText.{IsEntry}
use Rattle.book.specs.EntryOrders.{IsNotAfter}

-- two entries name no common UID on this side
abbrev pub Apart : Side → Entry → Entry → Type 0
Apart side a b = uid_of side a ≡ uid_of side b → uid_of side a ≡ 0

-- ---- as a test

abbrev clash : Side → Entry → Entry → Bool
clash side a b = ltb 0 (uid_of side a) && eqb (uid_of side a) (uid_of side b)

no_clash : (m n : ℕ) → (m ≡ n → m ≡ 0) → (ltb 0 m && eqb m n) ≡ false
no_clash m n apart = elim (cases_eq m n) [
  | inl same ↦ and_left (ltb 0 m) (eqb m n) (le-ltb 0 m (omega (arith, apart same)))
  | inr other ↦ and_right (ltb 0 m) (eqb m n) (ne_eqb m n other)
]

from_no_clash : (m n : ℕ) → (ltb 0 m && eqb m n) ≡ false → m ≡ n → m ≡ 0
from_no_clash m n h same = elim (and_cases (ltb 0 m) (eqb m n) h) [
  | inl none ↦ omega (arith, ltb-false 0 m none)
  | inr other ↦ absurd (eqb-false m n other same)
]

flips : (m n : ℕ) → (ltb 0 m && eqb m n) ≡ (ltb 0 n && eqb n m)
flips m n = elim (cases_eq m n) [
  | inl same ↦ rw same refl
  | inr other ↦ and_right (ltb 0 m) (eqb m n) (ne_eqb m n other) ∙ sym (and_right (ltb 0 n) (eqb n m) (ne_eqb n m (λ e. other (sym e))))
]

-- another order keeps entries apart
pub apart_moved : (side : Side) (xs ys : List Entry) → IsPermutation xs ys → AllPairs (Apart side) xs → AllPairs (Apart side) ys
apart_moved side xs ys moves apart =
    let distinct : IsDistinct (clash side) xs = IsDistinct-from_apart (clash side) xs
    (λ i j d before within. no_clash (uid_of side (get_or xs i d)) (uid_of side (get_or xs j d)) (apart i j d before within)) in
    let after = IsDistinct-IsPermutation (clash side) (λ x y. flips (uid_of side x) (uid_of side y)) xs ys moves distinct in
    λ i j d before within. from_no_clash (uid_of side (get_or ys i d)) (uid_of side (get_or ys j d)) (apart_from_distinct (clash side) ys i j d after before within)

-- ---- lists

pub AllPairs-map : {X : Type 0} (R : X → X → Type 0) (f : X → X) → ((a b : X) → R a b → R (f a) (f b)) → (xs : List X) → AllPairs R xs → AllPairs R (map f xs)
AllPairs-map {X} R f h xs pairs = λ i j d before within.
    let size = length-map xs f in
    let here : j < length xs = omega arith in
    let there : i < length xs = omega arith in
    rw (get_or-map f xs i d d there, get_or-map f xs j d d here) (h (get_or xs i d) (get_or xs j d) (pairs i j d before here))

pub AllPairs-append : {X : Type 0} (R : X → X → Type 0) (xs ys : List X) → AllPairs R xs → AllPairs R ys → All (λ x. All (R x) ys) xs → AllPairs R (xs ++ ys)
AllPairs-append R [] ys left right across = right
AllPairs-append {X} R (x ∷ xs) ys left right across =
    let later : All (R x) xs = λ k d within. left 0 (suc k) d (omega arith) (omega arith) in
    let rest : AllPairs R xs = λ i j d before within. left (suc i) (suc j) d (omega arith) (omega arith) in
    AllPairs-cons R x (xs ++ ys) (All-append (R x) xs ys later (All-head (λ (a : X). All (R a) ys) x xs across))
    (AllPairs-append R xs ys rest right (All-tail (λ (a : X). All (R a) ys) x xs across))

-- ---- pairs

uid_apart : (x y : Option ℕ) → (x ≡ y → x ≡ None) → unwrap_or x 0 ≡ unwrap_or y 0 → unwrap_or x 0 ≡ 0
uid_apart None y h e = refl
uid_apart (Some u) None h e = e
uid_apart (Some u) (Some v) h e = absurd (true≢false (ap is_some (h (ap Some e))))

-- the entries of a state are apart on each side
pub apart_from_pairs : (side : Side) (es : List Entry) → ArePairs es → AllPairs (Apart side) es
apart_from_pairs Far es p = λ i j d before within. uid_apart (get_or es i d).far (get_or es j d).far (p.far_once i j d before within)
apart_from_pairs Near es p = λ i j d before within. uid_apart (get_or es i d).near (get_or es j d).near (p.near_once i j d before within)

none_at_zero : (x : Option ℕ) → IsUidOrNone x → unwrap_or x 0 ≡ 0 → x ≡ None
none_at_zero None fits e = refl
none_at_zero (Some u) fits e = absurd (omega (arith, fits.positive, e))

no_side : (a : Entry) → a.far ≡ None → a.near ≡ None → has_a_side a ≡ true → ⊥
no_side a far near some = false≢true (rw (far, near) at some)

before_from : (a b : Entry) → IsEntry Two a → has_a_side a ≡ true → Apart Far a b → Apart Near a b → IsNotAfter a b → EntryBefore a b
before_from a b fits some far near order = (
  order.0,
  λ same. elim (cases_lt (uid_of Near a) (uid_of Near b)) [
    | inl below ↦ below
    | inr above ↦
        let both : uid_of Near a ≡ uid_of Near b = omega (arith, order.1 same, above) in
        absurd (no_side a (none_at_zero a.far fits.far (far same)) (none_at_zero a.near fits.near (near both)) some)
  ],
)

pub ArePairs-from : (es : List Entry) → All (IsEntry Two) es → All (λ e. has_a_side e ≡ true) es → ((side : Side) → AllPairs (Apart side) es) → AllPairs IsNotAfter es → ArePairs es
ArePairs-from es fits some apart order = record {
  ordered = λ i j d before within. before_from (get_or es i d) (get_or es j d) (fits i d (omega arith)) (some i d (omega arith))
      (apart Far i j d before within) (apart Near i j d before within) (order i j d before within);
  some = some;
  far_once = λ i j d before within same.
      none_at_zero (get_or es i d).far (fits i d (omega arith)).far (apart Far i j d before within (ap (λ (x : Option ℕ). unwrap_or x 0) same));
  near_once = λ i j d before within same.
      none_at_zero (get_or es i d).near (fits i d (omega arith)).near (apart Near i j d before within (ap (λ (x : Option ℕ). unwrap_or x 0) same));
}
