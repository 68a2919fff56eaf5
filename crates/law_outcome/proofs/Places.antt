-- Two propagations that are called for and have one place are one, and places compare.
use Rattle.std.proofs.Common.{◌≡◌, ℕ, ◌<◌, ◌≤◌, Bool, true, not, Some, sym, ap, ap₂, ◌∙◌, inl, inr, arith, ◌⊎◌}
use Rattle.std.specs.Prelude.{Contains, ◌&&◌, ◌==◌}
use Rattle.std.proofs.lemmas.Bool.{and_parts, eqb-true, cases_order}
use Rattle.std.proofs.lemmas.Option.{same_Some}
use Rattle.mailcore.specs.declared.side.Side.TheVariants.{Far, Near}
use Rattle.mailcore.specs.declared.side.Direction.{Direction}
use Rattle.mailcore.specs.declared.side.Direction.TheVariants.{Pull, Push}
use Rattle.mailcore.specs.FlagSet.{minus}
use Rattle.mailcore.specs.Sides.{source, target}
use Rattle.rules.specs.declared.entry.Entry.{Entry}
use Rattle.rules.specs.declared.entry.ListedPair.{ListedPair}
use Rattle.rules.specs.Propagation.{Propagation, New, Gone, Flags, Expunge, Record, Drop}
use Rattle.rules.specs.Options.{goes}
use Rattle.rules.specs.Entries.{ArePairs, uid_of, is_full}
use Rattle.rules.specs.Scene.{Scene, is_listed}
use Rattle.rules.specs.Called.{called, of_pair, differ_by, is_gone, pair_of, before, after, recorded}
use Rattle.rules.specs.Order.{place, IsBelow, Before}
use Rattle.rules.proofs.LookUps.{far_only, near_only, full_far, full_near, pair_says, entry_of, pair_of_entry}

-- ---- a gone

-- what is so of an entry of which a side has gone
pub record IsGone (s : Scene) (d : Direction) (e : Entry) : Type 0 where
  pub goes : goes s.options.cells.gone d ≡ true
  pub full : is_full e ≡ true
  pub left : not (is_listed s (source d) (uid_of (source d) e)) ≡ true
  pub stays : is_listed s (target d) (uid_of (target d) e) ≡ true

pub gone_says : (s : Scene) (d : Direction) (e : Entry) → is_gone s d e ≡ true → IsGone s d e
gone_says s d e h =
    let on : Bool = goes s.options.cells.gone d in
    let left : Bool = not (is_listed s (source d) (uid_of (source d) e)) in
    let a = and_parts (on && is_full e && left) (is_listed s (target d) (uid_of (target d) e)) h in
    let b = and_parts (on && is_full e) left a.0 in
    let f = and_parts on (is_full e) b.0 in
    record { goes = f.0; full = f.1; left = b.1; stays = a.1 }

-- two full entries with one UID on a side have both UIDs in common
same_by_far : (s : Scene) → ArePairs s.entries → (a b : Entry) → Contains s.entries a → Contains s.entries b → is_full a ≡ true → is_full b ≡ true → uid_of Far a ≡ uid_of Far b → b ≡ a
same_by_far s pairs a b c d g h e = far_only s.entries pairs a b (uid_of Far a) c d (full_far a g) (full_far b h ∙ ap (λ u. Some u) (sym e))

same_by_near : (s : Scene) → ArePairs s.entries → (a b : Entry) → Contains s.entries a → Contains s.entries b → is_full a ≡ true → is_full b ≡ true → uid_of Near a ≡ uid_of Near b → b ≡ a
same_by_near s pairs a b c d g h e = near_only s.entries pairs a b (uid_of Near a) c d (full_near a g) (full_near b h ∙ ap (λ u. Some u) (sym e))

one_pull_gone : (s : Scene) (f n g m : ℕ) → ArePairs s.entries → called s (Gone Pull f n) ≡ true → called s (Gone Pull g m) ≡ true → n ≡ m → Gone Pull f n ≡ Gone Pull g m
one_pull_gone s f n g m pairs h k e =
    let x = entry_of s f n (is_gone s Pull) h in
    let y = entry_of s g m (is_gone s Pull) k in
    let same : y.0 ≡ x.0 = same_by_near s pairs x.0 y.0 x.1 y.1 (gone_says s Pull x.0 x.4).full (gone_says s Pull y.0 y.4).full (x.3 ∙ e ∙ sym y.3) in
    ap₂ (λ u v. Gone Pull u v) (sym x.2 ∙ ap (λ z. uid_of Far z) (sym same) ∙ y.2) e

one_push_gone : (s : Scene) (f n g m : ℕ) → ArePairs s.entries → called s (Gone Push f n) ≡ true → called s (Gone Push g m) ≡ true → f ≡ g → Gone Push f n ≡ Gone Push g m
one_push_gone s f n g m pairs h k e =
    let x = entry_of s f n (is_gone s Push) h in
    let y = entry_of s g m (is_gone s Push) k in
    let same : y.0 ≡ x.0 = same_by_far s pairs x.0 y.0 x.1 y.1 (gone_says s Push x.0 x.4).full (gone_says s Push y.0 y.4).full (x.2 ∙ e ∙ sym y.2) in
    ap₂ (λ u v. Gone Push u v) e (sym x.3 ∙ ap (λ z. uid_of Near z) (sym same) ∙ y.3)

-- ---- flags of a pair

-- two called pairs with one far UID are one
one_pair : (s : Scene) (a b : Entry) (p q : ListedPair) → ArePairs s.entries → Contains s.entries a → Contains s.entries b → pair_of s a ≡ Some p → pair_of s b ≡ Some q → p.far ≡ q.far → p ≡ q
one_pair s a b p q pairs c d g h e =
    let same : b ≡ a = far_only s.entries pairs a b p.far c d (pair_says s a p g).far ((pair_says s b q h).far ∙ ap (λ u. Some u) (sym e)) in
    same_Some p q (sym g ∙ ap (λ z. pair_of s z) (sym same) ∙ h)

-- what a called flags step says of its pair
record IsStepOf (d : Direction) (f n set cleared : ℕ) (p : ListedPair) : Type 0 where
  far : p.far ≡ f
  near : p.near ≡ n
  sets : set ≡ minus (after d p) (before d p)
  clears : cleared ≡ minus (before d p) (after d p)

step_says : (d : Direction) (f n set cleared : ℕ) (p : ListedPair) → p.far ≡ f → p.near ≡ n → differ_by set cleared (before d p) (after d p) ≡ true → IsStepOf d f n set cleared p
step_says d f n set cleared p g m h =
    let a = and_parts (not (before d p == after d p) && set == minus (after d p) (before d p)) (cleared == minus (before d p) (after d p)) h in
    let b = and_parts (not (before d p == after d p)) (set == minus (after d p) (before d p)) a.0 in
    record { far = g; near = m; sets = eqb-true set _ b.1; clears = eqb-true cleared _ a.1 }

same_step : (d : Direction) (f n set cleared g m gained lost : ℕ) (p q : ListedPair) → p ≡ q → IsStepOf d f n set cleared p → IsStepOf d g m gained lost q → Flags d f n set cleared ≡ Flags d g m gained lost
same_step d f n set cleared g m gained lost p q e x y =
    ap₂ (λ u v. Flags d u v set cleared) (sym x.far ∙ ap (λ (z : ListedPair). z.far) e ∙ y.far) (sym x.near ∙ ap (λ (z : ListedPair). z.near) e ∙ y.near)
    ∙ ap₂ (λ u v. Flags d g m u v) (x.sets ∙ ap (λ z. minus (after d z) (before d z)) e ∙ sym y.sets) (x.clears ∙ ap (λ z. minus (before d z) (after d z)) e ∙ sym y.clears)

one_flags : (s : Scene) (d : Direction) (f n set cleared g m gained lost : ℕ) → ArePairs s.entries → called s (Flags d f n set cleared) ≡ true → called s (Flags d g m gained lost) ≡ true → f ≡ g →
    Flags d f n set cleared ≡ Flags d g m gained lost
one_flags s d f n set cleared g m gained lost pairs h k e =
    let x = pair_of_entry s f n (λ p. differ_by set cleared (before d p) (after d p)) (and_parts (goes s.options.cells.flags d) (of_pair s f n (λ p. differ_by set cleared (before d p) (after d p))) h).1 in
    let y = pair_of_entry s g m (λ p. differ_by gained lost (before d p) (after d p)) (and_parts (goes s.options.cells.flags d) (of_pair s g m (λ p. differ_by gained lost (before d p) (after d p))) k).1 in
    same_step d f n set cleared g m gained lost x.1 y.1 (one_pair s x.0 y.0 x.1 y.1 pairs x.2 y.2 x.3 y.3 (x.4 ∙ e ∙ sym y.4))
    (step_says d f n set cleared x.1 x.4 x.5 x.6) (step_says d g m gained lost y.1 y.4 y.5 y.6)

one_record : (s : Scene) (f n w g m v : ℕ) → ArePairs s.entries → called s (Record f n w) ≡ true → called s (Record g m v) ≡ true → f ≡ g → n ≡ m → Record f n w ≡ Record g m v
one_record s f n w g m v pairs h k e a =
    let x = pair_of_entry s f n (λ p. w == recorded s p && not (w == p.recorded)) h in
    let y = pair_of_entry s g m (λ p. v == recorded s p && not (v == p.recorded)) k in
    let same : x.1 ≡ y.1 = one_pair s x.0 y.0 x.1 y.1 pairs x.2 y.2 x.3 y.3 (x.4 ∙ e ∙ sym y.4) in
    let is_w : w ≡ recorded s x.1 = eqb-true w (recorded s x.1) (and_parts (w == recorded s x.1) (not (w == x.1.recorded)) x.6).0 in
    let is_v : v ≡ recorded s y.1 = eqb-true v (recorded s y.1) (and_parts (v == recorded s y.1) (not (v == y.1.recorded)) y.6).0 in
    ap₂ (λ u z. Record u z w) e a ∙ ap (λ z. Record g m z) (is_w ∙ ap (λ p. recorded s p) same ∙ sym is_v)

-- ---- all kinds

first_of_place : {a b : ℕ × ℕ × ℕ} → a ≡ b → a.0 ≡ b.0
first_of_place e = ap (λ (x : ℕ × ℕ × ℕ). x.0) e

second_of_place : {a b : ℕ × ℕ × ℕ} → a ≡ b → a.1 ≡ b.1
second_of_place e = ap (λ (x : ℕ × ℕ × ℕ). x.1) e

third_of_place : {a b : ℕ × ℕ × ℕ} → a ≡ b → a.2 ≡ b.2
third_of_place e = ap (λ (x : ℕ × ℕ × ℕ). x.2) e

-- the kinds of a constructor, from the first up to the one after the last
abbrev first_kind : Propagation → ℕ
first_kind (New d u) = 0
first_kind (Gone d f n) = 2
first_kind (Flags d f n set cleared) = 4
first_kind (Expunge side u) = 6
first_kind (Record f n w) = 8
first_kind (Drop f n) = 9

abbrev next_kind : Propagation → ℕ
next_kind (New d u) = 2
next_kind (Gone d f n) = 4
next_kind (Flags d f n set cleared) = 6
next_kind (Expunge side u) = 8
next_kind (Record f n w) = 9
next_kind (Drop f n) = 10

kind_within : (p : Propagation) → (first_kind p ≤ (place p).0) × ((place p).0 < next_kind p)
kind_within (New Pull u) = omega arith
kind_within (New Push u) = omega arith
kind_within (Gone Pull f n) = omega arith
kind_within (Gone Push f n) = omega arith
kind_within (Flags Pull f n set cleared) = omega arith
kind_within (Flags Push f n set cleared) = omega arith
kind_within (Expunge Far u) = omega arith
kind_within (Expunge Near u) = omega arith
kind_within (Record f n w) = omega arith
kind_within (Drop f n) = omega arith

pub one_of_a_kind : (s : Scene) (p q : Propagation) → ArePairs s.entries → called s p ≡ true → called s q ≡ true → place p ≡ place q → p ≡ q
one_of_a_kind s (New Pull u) (New Pull v) pairs h k e = ap (λ x. New Pull x) (second_of_place e)
one_of_a_kind s (New Push u) (New Push v) pairs h k e = ap (λ x. New Push x) (second_of_place e)
one_of_a_kind s (Gone Pull f n) (Gone Pull g m) pairs h k e = one_pull_gone s f n g m pairs h k (second_of_place e)
one_of_a_kind s (Gone Push f n) (Gone Push g m) pairs h k e = one_push_gone s f n g m pairs h k (second_of_place e)
one_of_a_kind s (Flags Pull f n set cleared) (Flags Pull g m gained lost) pairs h k e = one_flags s Pull f n set cleared g m gained lost pairs h k (second_of_place e)
one_of_a_kind s (Flags Push f n set cleared) (Flags Push g m gained lost) pairs h k e = one_flags s Push f n set cleared g m gained lost pairs h k (second_of_place e)
one_of_a_kind s (Expunge Far u) (Expunge Far v) pairs h k e = ap (λ x. Expunge Far x) (second_of_place e)
one_of_a_kind s (Expunge Near u) (Expunge Near v) pairs h k e = ap (λ x. Expunge Near x) (second_of_place e)
one_of_a_kind s (Record f n w) (Record g m v) pairs h k e = one_record s f n w g m v pairs h k (second_of_place e) (third_of_place e)
one_of_a_kind s (Drop f n) (Drop g m) pairs h k e = ap₂ (λ u v. Drop u v) (second_of_place e) (third_of_place e)
one_of_a_kind s p q pairs h k e = let same : (place p).0 ≡ (place q).0 = first_of_place e in absurd (omega (arith, same, kind_within p, kind_within q))

same_place : (a b : ℕ × ℕ × ℕ) → a.0 ≡ b.0 → a.1 ≡ b.1 → a.2 ≡ b.2 → a ≡ b
same_place a b x y z = λ i. (x i, y i, z i)

places_compare : (a b : ℕ × ℕ × ℕ) → IsBelow a b ⊎ ((a ≡ b) ⊎ IsBelow b a)
places_compare a b = elim (cases_order a.0 b.0) [
  | inl x ↦ elim (cases_order a.1 b.1) [
    | inl y ↦ elim (cases_order a.2 b.2) [
      | inl z ↦ inr (inl (same_place a b x y z))
      | inr other ↦ elim other [ inl lower ↦ inl (inr (x, inr (y, lower))) | inr above ↦ inr (inr (inr (sym x, inr (sym y, above)))) ]
    ]
    | inr other ↦ elim other [ inl lower ↦ inl (inr (x, inl lower)) | inr above ↦ inr (inr (inr (sym x, inl above))) ]
  ]
  | inr other ↦ elim other [ inl lower ↦ inl (inl lower) | inr above ↦ inr (inr (inl above)) ]
]

pub in_order : (s : Scene) (p q : Propagation) → ArePairs s.entries → called s p ≡ true → called s q ≡ true → Before p q ⊎ ((p ≡ q) ⊎ Before q p)
in_order s p q pairs h k = elim (places_compare (place p) (place q)) [
  | inl lower ↦ inl lower
  | inr other ↦ elim other [ inl same ↦ inr (inl (one_of_a_kind s p q pairs h k same)) | inr above ↦ inr (inr above) ]
]
