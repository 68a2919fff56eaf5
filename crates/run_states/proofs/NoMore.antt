-- Whatever is called for on a scene with other UIDs names those of messages and entries.
use Rattle.std.proofs.Common.{◌≡◌, ℕ, Bool, true, List, Option, Some, None, map, refl, sym, ap, ◌∙◌}
use Rattle.std.specs.Prelude.{Contains, find, not, ◌&&◌, ◌==◌}
use Rattle.std.specs.Option.{option_map}
use Rattle.std.proofs.lemmas.Bool.{and_parts, eqb-true, false≢true}
use Rattle.mailcore.specs.declared.side.Side.{Side}
use Rattle.mailcore.specs.declared.side.Side.TheVariants.{Far, Near}
use Rattle.mailcore.specs.declared.side.Direction.{Direction}
use Rattle.mailcore.specs.declared.listing.Item.{Item}
use Rattle.mailcore.specs.Sides.{source}
use Rattle.rules.specs.declared.entry.Entry.{Entry}
use Rattle.rules.specs.declared.entry.ListedPair.{ListedPair}
use Rattle.rules.specs.Propagation.{Propagation, New, Gone, Flags, Expunge, Record, Drop}
use Rattle.rules.specs.Options.{goes, covers}
use Rattle.rules.specs.Entries.{uid_of}
use Rattle.rules.specs.Scene.{Scene, flags_at, items}
use Rattle.rules.specs.Called.{after, before, called, differ_by, is_deleted_then, is_gone, is_new, is_pair_with, of_entry, of_pair, pair_of, recorded, vanishes}
use Rattle.rules.proofs.Walks.{find_some, list_any_some, map_contains}
use Rattle.law_outcome.specs.OtherUids.{item_under, propagation_under}
use Rattle.run_states.proofs.Moved.{Moves, moved, pair_of_moved, pair_under, uid_moved}

-- both UIDs are images
record AreSent (to : Side → ℕ → ℕ) (f n : ℕ) : Type 0 where
  far : ℕ
  near : ℕ
  far_is : f ≡ to Far far
  near_is : n ≡ to Near near

found_item : (o : Option Item) (flags : ℕ) → option_map (λ (i : Item). i.flags) o ≡ Some flags → (i : Item) × (o ≡ Some i)
found_item None flags e = cc
found_item (Some i) flags e = (i, refl)

module _ (to : Side → ℕ → ℕ) (s : Scene) (es : List Entry) (k : Moves to s es) where
  abbrev t : Scene
  t = moved to s es

  -- a listed message
  sent_uid : (side : Side) (is : List Item) (i : Item) (u : ℕ) → Contains (map (item_under (to side)) is) i → (i.uid == u) ≡ true → (v : ℕ) × (u ≡ to side v)
  sent_uid side is i u c e = let m = map_contains (item_under (to side)) is i c in (m.0.uid, sym (eqb-true i.uid u e) ∙ sym (ap (λ (x : Item). x.uid) m.2))

  listed_uid : (side : Side) (i : Item) (u : ℕ) → Contains (items t side) i → (i.uid == u) ≡ true → (v : ℕ) × (u ≡ to side v)
  listed_uid Far i u c e = sent_uid Far s.far i u c e
  listed_uid Near i u c e = sent_uid Near s.near i u c e

  entry_sent : (f n : ℕ) (p : Entry → Bool) → of_entry t f n p ≡ true → AreSent to f n
  entry_sent f n p h =
      let r = list_any_some (λ (e : Entry). uid_of Far e == f && uid_of Near e == n && p e) es h in
      let e = r.0 in
      let tests = and_parts (uid_of Far e == f) (uid_of Near e == n) (and_parts (uid_of Far e == f && uid_of Near e == n) (p e) r.2).0 in
      let images = k.images in
      let b = images.back e r.1 in
      record {
        far = uid_of Far b.0;
        near = uid_of Near b.0;
        far_is = sym (eqb-true (uid_of Far e) f tests.0) ∙ sym (ap (λ (x : Entry). uid_of Far x) b.2) ∙ uid_moved to s es k Far b.0;
        near_is = sym (eqb-true (uid_of Near e) n tests.1) ∙ sym (ap (λ (x : Entry). uid_of Near x) b.2) ∙ uid_moved to s es k Near b.0;
      }

  sent_pair : (f n : ℕ) (p : ListedPair → Bool) (o : Option ListedPair) → is_pair_with f n p (option_map (pair_under to) o) ≡ true → AreSent to f n
  sent_pair f n p None h = absurd (false≢true h)
  sent_pair f n p (Some x) h =
      let tests = and_parts (to Far x.far == f) (to Near x.near == n) (and_parts (to Far x.far == f && to Near x.near == n) (p (pair_under to x)) h).0 in
      record { far = x.far; near = x.near; far_is = sym (eqb-true (to Far x.far) f tests.0); near_is = sym (eqb-true (to Near x.near) n tests.1) }

  pair_sent : (f n : ℕ) (p : ListedPair → Bool) → of_pair t f n p ≡ true → AreSent to f n
  pair_sent f n p h =
      let r = list_any_some (λ (e : Entry). is_pair_with f n p (pair_of t e)) es h in
      let images = k.images in
      let b = images.back r.0 r.1 in
      sent_pair f n p (pair_of s b.0) (ap (λ (o : Option ListedPair). is_pair_with f n p o) (sym (pair_of_moved to s es k b.0)) ∙ ap (λ (e : Entry). is_pair_with f n p (pair_of t e)) b.2 ∙ r.2)

  expunged_sent : (side : Side) (u : ℕ) (o : Option ℕ) → flags_at (items t side) u ≡ o → is_deleted_then t side u o ≡ true → (v : ℕ) × (u ≡ to side v)
  expunged_sent side u None e h = absurd (false≢true h)
  expunged_sent side u (Some flags) e h =
      let i = found_item (find (λ (x : Item). x.uid == u) (items t side)) flags e in
      let f = find_some (λ (x : Item). x.uid == u) (items t side) i.0 i.1 in
      listed_uid side i.0 u f.0 f.1

  new_sent : (d : Direction) (u : ℕ) → called t (New d u) ≡ true → (v : ℕ) × (u ≡ to (source d) v)
  new_sent d u h =
      let r = list_any_some (λ (i : Item). i.uid == u && is_new t d i) (items t (source d)) h in
      listed_uid (source d) r.0 u r.1 (and_parts (r.0.uid == u) (is_new t d r.0) r.2).0

  -- ---- all of them

  pub only_sent : (p : Propagation) → called t p ≡ true → (q : Propagation) × (p ≡ propagation_under to q)
  only_sent (New d u) h = let v = new_sent d u h in (New d v.0, ap (λ (x : ℕ). New d x) v.1)
  only_sent (Gone d f n) h =
      let v = entry_sent f n (is_gone t d) h in
      (Gone d v.far v.near, ap (λ (x : ℕ). Gone d x n) v.far_is ∙ ap (λ (x : ℕ). Gone d (to Far v.far) x) v.near_is)
  only_sent (Flags d f n set cleared) h =
      let both = and_parts (goes s.options.cells.flags d) (of_pair t f n (λ p. differ_by set cleared (before d p) (after d p))) h in
      let v = pair_sent f n (λ p. differ_by set cleared (before d p) (after d p)) both.1 in
      (Flags d v.far v.near set cleared, ap (λ (x : ℕ). Flags d x n set cleared) v.far_is ∙ ap (λ (x : ℕ). Flags d (to Far v.far) x set cleared) v.near_is)
  only_sent (Expunge side u) h =
      let both = and_parts (covers s.options.expunge side) (is_deleted_then t side u (flags_at (items t side) u)) h in
      let v = expunged_sent side u (flags_at (items t side) u) refl both.1 in
      (Expunge side v.0, ap (λ (x : ℕ). Expunge side x) v.1)
  only_sent (Record f n w) h =
      let v = pair_sent f n (λ p. w == recorded t p && not (w == p.recorded)) h in
      (Record v.far v.near w, ap (λ (x : ℕ). Record x n w) v.far_is ∙ ap (λ (x : ℕ). Record (to Far v.far) x w) v.near_is)
  only_sent (Drop f n) h =
      let v = entry_sent f n (λ e. vanishes t Far f && vanishes t Near n) h in
      (Drop v.far v.near, ap (λ (x : ℕ). Drop x n) v.far_is ∙ ap (λ (x : ℕ). Drop (to Far v.far) x) v.near_is)
