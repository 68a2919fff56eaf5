-- What looks an element up, and which element a look-up has found.
use Rattle.std.proofs.Common.{◌≡◌, ℕ, ◌<◌, Bool, true, List, Option, Some, None, refl, sym, ap, ◌∙◌, arith}
use Rattle.std.specs.Prelude.{Contains, find, ◌&&◌, ◌==◌, is_some, unwrap_or}
use Rattle.std.specs.Option.{option_map}
use Rattle.std.proofs.lemmas.Bool.{false≢true, and_parts, and_from, eqb-true, eq-eqb}
use Rattle.std.proofs.lemmas.Option.{none-some, same_Some}
use Rattle.mailcore.specs.declared.side.Side.{Side}
use Rattle.mailcore.specs.declared.side.Side.TheVariants.{Far, Near}
use Rattle.mailcore.specs.declared.listing.Item.{Item}
use Rattle.mailcore.specs.Listed.{IsRising}
use Rattle.rules.specs.declared.entry.Entry.{Entry}
use Rattle.rules.specs.declared.entry.ListedPair.{ListedPair}
use Rattle.rules.specs.Entries.{ArePairs, uid_of, is_full, both, uids_of}
use Rattle.rules.specs.Scene.{Scene, flags_at, full_entry}
use Rattle.rules.specs.Called.{with_flags, pair_between, pair_of, of_entry, is_pair_with, of_pair}
use Rattle.rules.proofs.Walks.{list_any_some, find_some, find_only, only_one}

-- ---- listed messages

pub flags_at_item : (is : List Item) → IsRising is → (i : Item) → Contains is i → flags_at is i.uid ≡ Some i.flags
flags_at_item is rising i c =
    ap (λ o. option_map (λ (j : Item). j.flags) o)
    (find_only (λ (j : Item). j.uid == i.uid) is i c (eq-eqb i.uid i.uid refl)
    (λ y d e. only_one (λ (a b : Item). a.uid < b.uid) (λ a. a.uid) i (λ a b l u v. omega arith) is rising c y d (eqb-true y.uid i.uid e)))

some_item : {X : Type 0} (g : X → ℕ) (o : Option X) → is_some (option_map g o) ≡ true → (x : X) × (o ≡ Some x)
some_item g None e = absurd (false≢true e)
some_item g (Some x) e = (x, refl)

-- a listed UID is that of an item
pub listed_item : (is : List Item) (u : ℕ) → is_some (flags_at is u) ≡ true → (i : Item) × Contains is i × (i.uid ≡ u)
listed_item is u e =
    let r = some_item (λ (i : Item). i.flags) (find (λ (i : Item). i.uid == u) is) e in
    let f = find_some (λ (i : Item). i.uid == u) is r.0 r.1 in
    (r.0, f.0, eqb-true r.0.uid u f.1)

pub full_found : (s : Scene) (side : Side) (u : ℕ) (e : Entry) → full_entry s side u ≡ Some e → Contains s.entries e × (is_full e ≡ true) × (uid_of side e ≡ u)
full_found s side u e h =
    let f = find_some (λ (x : Entry). is_full x && uid_of side x == u) s.entries e h in
    let b = and_parts (is_full e) (uid_of side e == u) f.1 in
    (f.0, b.0, eqb-true (uid_of side e) u b.1)

-- ---- full entries

some_is : (o : Option ℕ) → is_some o ≡ true → o ≡ Some (unwrap_or o 0)
some_is None h = absurd (false≢true h)
some_is (Some u) h = refl

pub full_far : (e : Entry) → is_full e ≡ true → e.far ≡ Some (uid_of Far e)
full_far e h = some_is e.far (and_parts (is_some e.far) (is_some e.near) h).0

pub full_near : (e : Entry) → is_full e ≡ true → e.near ≡ Some (uid_of Near e)
full_near e h = some_is e.near (and_parts (is_some e.far) (is_some e.near) h).1

pub full_from : (e : Entry) (f n : ℕ) → e.far ≡ Some f → e.near ≡ Some n → is_full e ≡ true
full_from e f n a b = and_from (is_some e.far) (is_some e.near) (ap (λ (o : Option ℕ). is_some o) a) (ap (λ (o : Option ℕ). is_some o) b)

-- two entries that name one UID on a side are one
pub far_only : (es : List Entry) → ArePairs es → (a b : Entry) (f : ℕ) → Contains es a → Contains es b → a.far ≡ Some f → b.far ≡ Some f → b ≡ a
far_only es pairs a b f c d g h =
    only_one (λ (x y : Entry). x.far ≡ y.far → x.far ≡ None) (λ x. x.far) a (λ x y q u v. none-some f (sym (q (u ∙ sym v)) ∙ u ∙ g)) es pairs.far_once c b d (h ∙ sym g)

pub near_only : (es : List Entry) → ArePairs es → (a b : Entry) (n : ℕ) → Contains es a → Contains es b → a.near ≡ Some n → b.near ≡ Some n → b ≡ a
near_only es pairs a b n c d g h =
    only_one (λ (x y : Entry). x.near ≡ y.near → x.near ≡ None) (λ x. x.near) a (λ x y q u v. none-some n (sym (q (u ∙ sym v)) ∙ u ∙ g)) es pairs.near_once c b d (h ∙ sym g)

uid_is : (o : Option ℕ) (u : ℕ) → o ≡ Some (unwrap_or o 0) → unwrap_or o 0 ≡ u → o ≡ Some u
uid_is o u h e = h ∙ ap (λ n. Some n) e

-- a full entry is the one with its UID
pub full_only : (s : Scene) (side : Side) → ArePairs s.entries → (e : Entry) → Contains s.entries e → is_full e ≡ true → full_entry s side (uid_of side e) ≡ Some e
full_only s Far pairs e c h =
    find_only (λ (x : Entry). is_full x && uid_of Far x == uid_of Far e) s.entries e c (and_from (is_full e) (uid_of Far e == uid_of Far e) h (eq-eqb (uid_of Far e) (uid_of Far e) refl))
    (λ y d w. let b = and_parts (is_full y) (uid_of Far y == uid_of Far e) w in
    far_only s.entries pairs e y (uid_of Far e) c d (full_far e h) (uid_is y.far (uid_of Far e) (full_far y b.0) (eqb-true (uid_of Far y) (uid_of Far e) b.1)))
full_only s Near pairs e c h =
    find_only (λ (x : Entry). is_full x && uid_of Near x == uid_of Near e) s.entries e c (and_from (is_full e) (uid_of Near e == uid_of Near e) h (eq-eqb (uid_of Near e) (uid_of Near e) refl))
    (λ y d w. let b = and_parts (is_full y) (uid_of Near y == uid_of Near e) w in
    near_only s.entries pairs e y (uid_of Near e) c d (full_near e h) (uid_is y.near (uid_of Near e) (full_near y b.0) (eqb-true (uid_of Near y) (uid_of Near e) b.1)))

are_both : (far near : Option ℕ) (u : ℕ × ℕ) → both far near ≡ Some u → (far ≡ Some u.0) × (near ≡ Some u.1)
are_both None near u h = absurd (none-some u h)
are_both (Some f) None u h = absurd (none-some u h)
are_both (Some f) (Some n) u h = let e = same_Some (f, n) u h in (ap (λ (v : ℕ × ℕ). Some v.0) e, ap (λ (v : ℕ × ℕ). Some v.1) e)

both_are : (far near : Option ℕ) → (is_some far && is_some near) ≡ true → both far near ≡ Some (unwrap_or far 0, unwrap_or near 0)
both_are None near h = absurd (false≢true h)
both_are (Some f) None h = absurd (false≢true h)
both_are (Some f) (Some n) h = refl

-- the UIDs of a full entry are those of its sides
pub full_uids : (e : Entry) → is_full e ≡ true → uids_of e ≡ Some (uid_of Far e, uid_of Near e)
full_uids e h = both_are e.far e.near h

pub uids_far : (e : Entry) (u : ℕ × ℕ) → uids_of e ≡ Some u → uid_of Far e ≡ u.0
uids_far e u h = ap (λ o. unwrap_or o 0) (are_both e.far e.near u h).0

pub uids_near : (e : Entry) (u : ℕ × ℕ) → uids_of e ≡ Some u → uid_of Near e ≡ u.1
uids_near e u h = ap (λ o. unwrap_or o 0) (are_both e.far e.near u h).1

pub uids_full : (e : Entry) (u : ℕ × ℕ) → uids_of e ≡ Some u → is_full e ≡ true
uids_full e u h = let b = are_both e.far e.near u h in and_from (is_some e.far) (is_some e.near) (ap (λ o. is_some o) b.0) (ap (λ o. is_some o) b.1)

-- two full entries do not share a UID
pub far_clash : (a b : Entry) → (a.far ≡ b.far → a.far ≡ None) → is_full a ≡ true → a.far ≡ b.far → ⊥
far_clash a b q h e = none-some (uid_of Far a) (sym (q e) ∙ full_far a h)

-- ---- pairs

-- what the pair of an entry says
pub record IsPairOf (s : Scene) (e : Entry) (p : ListedPair) : Type 0 where
  pub far : e.far ≡ Some p.far
  pub near : e.near ≡ Some p.near
  pub far_flags : flags_at s.far p.far ≡ Some p.far_flags
  pub near_flags : flags_at s.near p.near ≡ Some p.near_flags
  pub recorded : p.recorded ≡ e.flags

record IsPairWith (f n r : ℕ) (a b : Option ℕ) (p : ListedPair) : Type 0 where
  far : f ≡ p.far
  near : n ≡ p.near
  far_flags : a ≡ Some p.far_flags
  near_flags : b ≡ Some p.near_flags
  noted : p.recorded ≡ r

with_flags_says : (f n r : ℕ) (a b : Option ℕ) (p : ListedPair) → with_flags f n r a b ≡ Some p → IsPairWith f n r a b p
with_flags_says f n r None b p h = absurd (none-some p h)
with_flags_says f n r (Some x) None p h = absurd (none-some p h)
with_flags_says f n r (Some x) (Some y) p h =
    let e = same_Some (record { far = f; near = n; far_flags = x; near_flags = y; recorded = r }) p h in
    record {
      far = ap (λ (q : ListedPair). q.far) e;
      near = ap (λ (q : ListedPair). q.near) e;
      far_flags = ap (λ (q : ListedPair). Some q.far_flags) e;
      near_flags = ap (λ (q : ListedPair). Some q.near_flags) e;
      noted = sym (ap (λ (q : ListedPair). q.recorded) e);
    }

pair_between_says : (s : Scene) (r : ℕ) (o : Option (ℕ × ℕ)) (p : ListedPair) → pair_between s r o ≡ Some p →
    (o ≡ Some (p.far, p.near)) × (flags_at s.far p.far ≡ Some p.far_flags) × (flags_at s.near p.near ≡ Some p.near_flags) × (p.recorded ≡ r)
pair_between_says s r None p h = absurd (none-some p h)
pair_between_says s r (Some u) p h =
    let w = with_flags_says u.0 u.1 r (flags_at s.far u.0) (flags_at s.near u.1) p h in (
      ap (λ x. Some (x, u.1)) w.far ∙ ap (λ x. Some (p.far, x)) w.near,
      ap (λ x. flags_at s.far x) (sym w.far) ∙ w.far_flags,
      ap (λ x. flags_at s.near x) (sym w.near) ∙ w.near_flags,
      w.noted,
    )

pub pair_says : (s : Scene) (e : Entry) (p : ListedPair) → pair_of s e ≡ Some p → IsPairOf s e p
pair_says s e p h =
    let r = pair_between_says s e.flags (uids_of e) p h in
    let u = are_both e.far e.near (p.far, p.near) r.0 in
    record { far = u.0; near = u.1; far_flags = r.1; near_flags = r.2; recorded = r.3 }

-- a full entry with listed messages has its pair
pub pair_from : (s : Scene) (e : Entry) (f n x y : ℕ) → e.far ≡ Some f → e.near ≡ Some n → flags_at s.far f ≡ Some x → flags_at s.near n ≡ Some y →
    pair_of s e ≡ Some (record { far = f; near = n; far_flags = x; near_flags = y; recorded = e.flags })
pair_from s e f n x y a b g h =
    ap (λ o. pair_between s e.flags (both o e.near)) a ∙ ap (λ o. pair_between s e.flags (both (Some f) o)) b
    ∙ ap (λ o. with_flags f n e.flags o (flags_at s.near n)) g ∙ ap (λ o. with_flags f n e.flags (Some x) o) h

-- ---- what is called of an entry or of a pair

-- an entry with these UIDs that passes
pub entry_of : (s : Scene) (f n : ℕ) (p : Entry → Bool) → of_entry s f n p ≡ true → (e : Entry) × Contains s.entries e × (uid_of Far e ≡ f) × (uid_of Near e ≡ n) × (p e ≡ true)
entry_of s f n p h =
    let r = list_any_some (λ (e : Entry). uid_of Far e == f && uid_of Near e == n && p e) s.entries h in
    let a = and_parts (uid_of Far r.0 == f && uid_of Near r.0 == n) (p r.0) r.2 in
    let b = and_parts (uid_of Far r.0 == f) (uid_of Near r.0 == n) a.0 in
    (r.0, r.1, eqb-true (uid_of Far r.0) f b.0, eqb-true (uid_of Near r.0) n b.1, a.1)

pair_with : (f n : ℕ) (p : ListedPair → Bool) (o : Option ListedPair) → is_pair_with f n p o ≡ true → (pair : ListedPair) × (o ≡ Some pair) × (pair.far ≡ f) × (pair.near ≡ n) × (p pair ≡ true)
pair_with f n p None h = absurd (false≢true h)
pair_with f n p (Some pair) h =
    let a = and_parts (pair.far == f && pair.near == n) (p pair) h in
    let b = and_parts (pair.far == f) (pair.near == n) a.0 in
    (pair, refl, eqb-true pair.far f b.0, eqb-true pair.near n b.1, a.1)

-- an entry of which the pair has these UIDs and passes
pub pair_of_entry : (s : Scene) (f n : ℕ) (p : ListedPair → Bool) → of_pair s f n p ≡ true → (e : Entry) × (pair : ListedPair) × Contains s.entries e × (pair_of s e ≡ Some pair) × (pair.far ≡ f) × (pair.near ≡ n) × (p pair ≡ true)
pair_of_entry s f n p h =
    let r = list_any_some (λ (e : Entry). is_pair_with f n p (pair_of s e)) s.entries h in
    let a = pair_with f n p (pair_of s r.0) r.2 in
    (r.0, a.0, r.1, a.1, a.2, a.3, a.4)

-- a pair has the UIDs of its entry
pub pair_uids : (s : Scene) (e : Entry) (p : ListedPair) → pair_of s e ≡ Some p → uids_of e ≡ Some (p.far, p.near)
pair_uids s e p h = (pair_between_says s e.flags (uids_of e) p h).0
