-- What is called for on a scene whose messages and entries have other UIDs, its entries in any order.
use Rattle.std.proofs.Common.{◌≡◌, ◌<◌, ℕ, Bool, true, false, cond, eqb, inl, inr, List, [], ◌∷◌, Option, Some, None, map, refl, sym, ap, ◌∙◌}
use Rattle.std.specs.Prelude.{Contains, find, not, ◌&&◌, ◌||◌, ◌==◌, nat_lt, unwrap_or, is_some}
use Rattle.std.specs.List.{list_any}
use Rattle.std.specs.Option.{option_map}
use Rattle.std.proofs.lemmas.Bool.{cases_Bool}
use Rattle.mailcore.specs.declared.side.Side.{Side}
use Rattle.mailcore.specs.declared.side.Side.TheVariants.{Far, Near}
use Rattle.mailcore.specs.declared.side.Direction.{Direction}
use Rattle.mailcore.specs.declared.side.Direction.TheVariants.{Pull, Push}
use Rattle.mailcore.specs.declared.listing.Item.{Item}
use Rattle.mailcore.specs.FlagSet.{DELETED, has}
use Rattle.mailcore.specs.Sides.{other, source}
use Rattle.rules.specs.declared.entry.Entry.{Entry}
use Rattle.rules.specs.declared.entry.ListedPair.{ListedPair}
use Rattle.rules.specs.Propagation.{Propagation, New, Gone, Flags, Expunge, Record, Drop}
use Rattle.rules.specs.Options.{goes, covers}
use Rattle.rules.specs.Entries.{ArePairs, both, is_full, uid_of}
use Rattle.rules.specs.Renaming.{IsRenaming, entry_under}
use Rattle.rules.specs.Scene.{Scene, flags_at, full_entry, highest, is_listed, is_paired, items}
use Rattle.rules.specs.Called.{is_new, is_gone, with_flags, pair_between, pair_of, before, after, recorded, differ_by, flags_by, flags_with, flags_after, is_deleted_then, is_expunged, vanishes, of_entry, is_pair_with, of_pair, called}
use Rattle.rules.proofs.LookUps.{full_found, full_only}
use Rattle.rules.proofs.Walks.{Contains-cases, Contains-none, find_none, list_any_from, list_any_some}
use Rattle.law_outcome.specs.OtherUids.{item_under, propagation_under}
use Rattle.law_outcome.proofs.Maps.{eqb_sent, ltb_sent}

-- ---- walks

-- two tests that are true together
same_test : (a b : Bool) → (a ≡ true → b ≡ true) → (b ≡ true → a ≡ true) → a ≡ b
same_test true b f g = sym (f refl)
same_test false true f g = g refl
same_test false false f g = refl

-- two lists whose elements are those of each other under a map
pub record AreImages {X Y : Type 0} (f : X → Y) (xs : List X) (ys : List Y) : Type 0 where
  pub there : (x : X) → Contains xs x → Contains ys (f x)
  pub back : (y : Y) → Contains ys y → (x : X) × Contains xs x × (f x ≡ y)

any_images : {X Y : Type 0} (f : X → Y) (xs : List X) (ys : List Y) (p : Y → Bool) (q : X → Bool) → AreImages f xs ys → ((x : X) → p (f x) ≡ q x) → list_any p ys ≡ list_any q xs
any_images f xs ys p q k h = same_test (list_any p ys) (list_any q xs)
    (λ e. let r = list_any_some p ys e in let b = k.back r.0 r.1 in list_any_from q xs b.0 b.1 (sym (h b.0) ∙ ap p b.2 ∙ r.2))
    (λ e. let r = list_any_some q xs e in list_any_from p ys (f r.0) (k.there r.0 r.1) (h r.0 ∙ r.2))

any_under : {X Y : Type 0} (f : X → Y) (p : Y → Bool) (q : X → Bool) → ((x : X) → p (f x) ≡ q x) → (xs : List X) → list_any p (map f xs) ≡ list_any q xs
any_under f p q h [] = refl
any_under f p q h (x ∷ xs) = ap (λ b. b || list_any p (map f xs)) (h x) ∙ ap (λ b. q x || b) (any_under f p q h xs)

find_misses : {X : Type 0} (p : X → Bool) (xs : List X) → find p xs ≡ None → (x : X) → Contains xs x → p x ≡ false
find_misses p [] e x c = absurd (Contains-none x c)
find_misses p (z ∷ zs) e x c = elim (cases_Bool (p z)) [
  | inl passes ↦ let w : Some z ≡ None = sym (rw passes refl) ∙ e in cc
  | inr fails ↦ let w : find p zs ≡ None = sym (rw fails refl) ∙ e in elim (Contains-cases z x zs c) [
    | inl same ↦ sym (ap p same) ∙ fails
    | inr rest ↦ find_misses p zs w x rest
  ]
]

-- ---- entries

some_map : (f : ℕ → ℕ) (o : Option ℕ) → is_some (option_map f o) ≡ is_some o
some_map f None = refl
some_map f (Some u) = refl

-- ---- the scene

-- the messages, the entries and the highest UIDs have other UIDs, and the entries stand so
abbrev pub moved : (Side → ℕ → ℕ) → Scene → List Entry → Scene
moved to s es = record {
  far = map (item_under (to Far)) s.far;
  near = map (item_under (to Near)) s.near;
  entries = es;
  max_pulled = to Far s.max_pulled;
  max_pushed = to Near s.max_pushed;
  options = s.options;
}

pub record Moves (to : Side → ℕ → ℕ) (s : Scene) (es : List Entry) : Type 0 where
  pub next : Side → ℕ
  pub some : (side : Side) → 0 < next side
  pub renames : (side : Side) → IsRenaming (next side) (to side)
  pub images : AreImages (entry_under to) s.entries es
  pub pairs : ArePairs es

find_sent : {X Y : Type 0} (f : X → Y) (p : Y → Bool) (q : X → Bool) → ((x : X) → p (f x) ≡ q x) → (xs : List X) → find p (map f xs) ≡ option_map f (find q xs)
find_sent f p q h [] = refl
find_sent f p q h (x ∷ xs) =
    ap (λ b. cond b (Some (f x)) (find p (map f xs))) (h x)
    ∙ ap (λ o. cond (q x) (Some (f x)) o) (find_sent f p q h xs)
    ∙ pick (q x) (find q xs)
  where
    pick : (b : Bool) (o : Option _) → cond b (Some (f x)) (option_map f o) ≡ option_map f (cond b (Some x) o)
    pick true o = refl
    pick false o = refl

flags_of : (f : Item → Item) → ((i : Item) → (f i).flags ≡ i.flags) → (o : Option Item) → option_map (λ (i : Item). i.flags) (option_map f o) ≡ option_map (λ (i : Item). i.flags) o
flags_of f h None = refl
flags_of f h (Some i) = ap (λ (n : ℕ). Some n) (h i)

-- a listed pair under other UIDs
abbrev pub pair_under : (Side → ℕ → ℕ) → ListedPair → ListedPair
pair_under to p = record { far = to Far p.far; near = to Near p.near; far_flags = p.far_flags; near_flags = p.near_flags; recorded = p.recorded }

module _ (to : Side → ℕ → ℕ) (s : Scene) (es : List Entry) (k : Moves to s es) where
  abbrev t : Scene
  t = moved to s es

  eqb_moved : (side : Side) (u v : ℕ) → eqb (to side u) (to side v) ≡ eqb u v
  eqb_moved side u v = eqb_sent (k.next side) (to side) (k.renames side) u v

  zero_stays : (side : Side) → to side 0 ≡ 0
  zero_stays side = (k.renames side).same 0 (k.some side)

  -- ---- entries by their UIDs

  pub uid_moved : (side : Side) (e : Entry) → uid_of side (entry_under to e) ≡ to side (uid_of side e)
  uid_moved Far e = of_uid e.far
    where
      of_uid : (o : Option ℕ) → unwrap_or (option_map (to Far) o) 0 ≡ to Far (unwrap_or o 0)
      of_uid None = sym (zero_stays Far)
      of_uid (Some u) = refl
  uid_moved Near e = of_uid e.near
    where
      of_uid : (o : Option ℕ) → unwrap_or (option_map (to Near) o) 0 ≡ to Near (unwrap_or o 0)
      of_uid None = sym (zero_stays Near)
      of_uid (Some u) = refl

  test_moved : (side : Side) (e : Entry) (u : ℕ) → eqb (uid_of side (entry_under to e)) (to side u) ≡ eqb (uid_of side e) u
  test_moved side e u = ap (λ v. eqb v (to side u)) (uid_moved side e) ∙ eqb_moved side (uid_of side e) u

  full_moved : (e : Entry) → is_full (entry_under to e) ≡ is_full e
  full_moved e = ap (λ b. b && is_some (option_map (to Near) e.near)) (some_map (to Far) e.far) ∙ ap (λ b. is_some e.far && b) (some_map (to Near) e.near)

  is_paired_moved : (side : Side) (u : ℕ) → is_paired t side (to side u) ≡ is_paired s side u
  is_paired_moved side u = any_images (entry_under to) s.entries es (λ (e : Entry). uid_of side e == to side u) (λ e. uid_of side e == u) k.images (λ e. test_moved side e u)

  full_test : (side : Side) (u : ℕ) (e : Entry) → (is_full (entry_under to e) && uid_of side (entry_under to e) == to side u) ≡ (is_full e && uid_of side e == u)
  full_test side u e = ap (λ b. b && uid_of side (entry_under to e) == to side u) (full_moved e) ∙ ap (λ b. is_full e && b) (test_moved side e u)

  full_entry_moved : (side : Side) (u : ℕ) → full_entry t side (to side u) ≡ option_map (entry_under to) (full_entry s side u)
  full_entry_moved side u = by_found (full_entry s side u) refl
    where
      by_found : (o : Option Entry) → full_entry s side u ≡ o → full_entry t side (to side u) ≡ option_map (entry_under to) o
      by_found None e = find_none (λ (x : Entry). is_full x && uid_of side x == to side u) es
          (λ y c. let b = k.images.back y c in
          sym (ap (λ (x : Entry). is_full x && uid_of side x == to side u) b.2) ∙ full_test side u b.0 ∙ find_misses (λ (x : Entry). is_full x && uid_of side x == u) s.entries e b.0 b.1)
      by_found (Some x) e =
          let f = full_found s side u x e in
          ap (λ v. full_entry t side v) (sym (uid_moved side x ∙ ap (to side) f.2))
          ∙ full_only t side k.pairs (entry_under to x) (k.images.there x f.0) (full_moved x ∙ f.1)

  -- ---- messages by their UIDs

  flags_sent : (side : Side) (is : List Item) (u : ℕ) → flags_at (map (item_under (to side)) is) (to side u) ≡ flags_at is u
  flags_sent side is u =
      ap (λ (o : Option Item). option_map (λ (i : Item). i.flags) o) (find_sent (item_under (to side)) (λ (i : Item). i.uid == to side u) (λ i. i.uid == u) (λ i. eqb_moved side i.uid u) is)
      ∙ flags_of (item_under (to side)) (λ i. refl) (find (λ (i : Item). i.uid == u) is)

  flags_at_moved : (side : Side) (u : ℕ) → flags_at (items t side) (to side u) ≡ flags_at (items s side) u
  flags_at_moved Far u = flags_sent Far s.far u
  flags_at_moved Near u = flags_sent Near s.near u

  -- of the message that an entry names
  flags_at_named : (side : Side) (e : Entry) → flags_at (items t side) (uid_of side (entry_under to e)) ≡ flags_at (items s side) (uid_of side e)
  flags_at_named side e = ap (λ v. flags_at (items t side) v) (uid_moved side e) ∙ flags_at_moved side (uid_of side e)

  is_listed_named : (side : Side) (e : Entry) → is_listed t side (uid_of side (entry_under to e)) ≡ is_listed s side (uid_of side e)
  is_listed_named side e = ap (λ (o : Option ℕ). is_some o) (flags_at_named side e)

  -- ---- flags after, and expunges

  flags_with_moved : (side : Side) (flags r : ℕ) (o : Option ℕ) → flags_with t side flags r o ≡ flags_with s side flags r o
  flags_with_moved side flags r None = refl
  flags_with_moved side flags r (Some theirs) = refl

  flags_by_moved : (side : Side) (flags : ℕ) (o : Option Entry) → flags_by t side flags (option_map (entry_under to) o) ≡ flags_by s side flags o
  flags_by_moved side flags None = refl
  flags_by_moved side flags (Some e) =
      ap (λ o. flags_with t side flags e.flags o) (flags_at_named (other side) e) ∙ flags_with_moved side flags e.flags (flags_at (items s (other side)) (uid_of (other side) e))

  flags_after_moved : (side : Side) (u flags : ℕ) → flags_after t side (to side u) flags ≡ flags_after s side u flags
  flags_after_moved side u flags = ap (λ o. flags_by t side flags o) (full_entry_moved side u) ∙ flags_by_moved side flags (full_entry s side u)

  deleted_moved : (side : Side) (u : ℕ) (o : Option ℕ) → is_deleted_then t side (to side u) o ≡ is_deleted_then s side u o
  deleted_moved side u None = refl
  deleted_moved side u (Some flags) = ap (λ n. has n DELETED) (flags_after_moved side u flags)

  is_expunged_moved : (side : Side) (u : ℕ) → is_expunged t side (to side u) ≡ is_expunged s side u
  is_expunged_moved side u =
      ap (λ b. covers s.options.expunge side && b)
      (ap (λ o. is_deleted_then t side (to side u) o) (flags_at_moved side u) ∙ deleted_moved side u (flags_at (items s side) u))

  vanishes_moved : (side : Side) (u : ℕ) → vanishes t side (to side u) ≡ vanishes s side u
  vanishes_moved side u =
      ap (λ b. b || not (is_listed t side (to side u)) || is_expunged t side (to side u)) (ap (λ v. eqb (to side u) v) (sym (zero_stays side)) ∙ eqb_moved side u 0)
      ∙ ap (λ (o : Option ℕ). u == 0 || not (is_some o) || is_expunged t side (to side u)) (flags_at_moved side u)
      ∙ ap (λ b. u == 0 || not (is_listed s side u) || b) (is_expunged_moved side u)

  -- ---- pairs

  is_gone_moved : (d : Direction) (e : Entry) → is_gone t d (entry_under to e) ≡ is_gone s d e
  is_gone_moved Pull e =
      ap (λ b. goes s.options.cells.gone Pull && b && not (is_listed t Far (uid_of Far (entry_under to e))) && is_listed t Near (uid_of Near (entry_under to e))) (full_moved e)
      ∙ ap (λ b. goes s.options.cells.gone Pull && is_full e && not b && is_listed t Near (uid_of Near (entry_under to e))) (is_listed_named Far e)
      ∙ ap (λ b. goes s.options.cells.gone Pull && is_full e && not (is_listed s Far (uid_of Far e)) && b) (is_listed_named Near e)
  is_gone_moved Push e =
      ap (λ b. goes s.options.cells.gone Push && b && not (is_listed t Near (uid_of Near (entry_under to e))) && is_listed t Far (uid_of Far (entry_under to e))) (full_moved e)
      ∙ ap (λ b. goes s.options.cells.gone Push && is_full e && not b && is_listed t Far (uid_of Far (entry_under to e))) (is_listed_named Near e)
      ∙ ap (λ b. goes s.options.cells.gone Push && is_full e && not (is_listed s Near (uid_of Near e)) && b) (is_listed_named Far e)

  with_flags_moved : (x y r : ℕ) (a b : Option ℕ) → with_flags (to Far x) (to Near y) r a b ≡ option_map (pair_under to) (with_flags x y r a b)
  with_flags_moved x y r None b = refl
  with_flags_moved x y r (Some a) None = refl
  with_flags_moved x y r (Some a) (Some b) = refl

  between_moved : (r : ℕ) (f n : Option ℕ) → pair_between t r (both (option_map (to Far) f) (option_map (to Near) n)) ≡ option_map (pair_under to) (pair_between s r (both f n))
  between_moved r None n = refl
  between_moved r (Some f) None = refl
  between_moved r (Some f) (Some n) =
      ap (λ o. with_flags (to Far f) (to Near n) r o (flags_at (items t Near) (to Near n))) (flags_at_moved Far f)
      ∙ ap (λ o. with_flags (to Far f) (to Near n) r (flags_at s.far f) o) (flags_at_moved Near n)
      ∙ with_flags_moved f n r (flags_at s.far f) (flags_at s.near n)

  pub pair_of_moved : (e : Entry) → pair_of t (entry_under to e) ≡ option_map (pair_under to) (pair_of s e)
  pair_of_moved e = between_moved e.flags e.far e.near

  pair_test : (f n : ℕ) (p q : ListedPair → Bool) → ((x : ListedPair) → p (pair_under to x) ≡ q x) → (o : Option ListedPair) → is_pair_with (to Far f) (to Near n) p (option_map (pair_under to) o) ≡ is_pair_with f n q o
  pair_test f n p q h None = refl
  pair_test f n p q h (Some x) =
      ap (λ b. b && to Near x.near == to Near n && p (pair_under to x)) (eqb_moved Far x.far f)
      ∙ ap (λ b. x.far == f && b && p (pair_under to x)) (eqb_moved Near x.near n)
      ∙ ap (λ b. x.far == f && x.near == n && b) (h x)

  of_pair_moved : (f n : ℕ) (p q : ListedPair → Bool) → ((x : ListedPair) → p (pair_under to x) ≡ q x) → of_pair t (to Far f) (to Near n) p ≡ of_pair s f n q
  of_pair_moved f n p q h =
      any_images (entry_under to) s.entries es (λ (e : Entry). is_pair_with (to Far f) (to Near n) p (pair_of t e)) (λ e. is_pair_with f n q (pair_of s e)) k.images
      (λ e. ap (λ o. is_pair_with (to Far f) (to Near n) p o) (pair_of_moved e) ∙ pair_test f n p q h (pair_of s e))

  of_entry_moved : (f n : ℕ) (p q : Entry → Bool) → ((e : Entry) → p (entry_under to e) ≡ q e) → of_entry t (to Far f) (to Near n) p ≡ of_entry s f n q
  of_entry_moved f n p q h =
      any_images (entry_under to) s.entries es (λ (e : Entry). uid_of Far e == to Far f && uid_of Near e == to Near n && p e) (λ e. uid_of Far e == f && uid_of Near e == n && q e) k.images
      (λ e.
      ap (λ b. b && uid_of Near (entry_under to e) == to Near n && p (entry_under to e)) (test_moved Far e f)
      ∙ ap (λ b. uid_of Far e == f && b && p (entry_under to e)) (test_moved Near e n)
      ∙ ap (λ b. uid_of Far e == f && uid_of Near e == n && b) (h e))

  -- ---- new messages

  highest_moved : (d : Direction) → highest d t ≡ to (source d) (highest d s)
  highest_moved Pull = refl
  highest_moved Push = refl

  is_new_moved : (d : Direction) (i : Item) → is_new t d (item_under (to (source d)) i) ≡ is_new s d i
  is_new_moved d i =
      ap (λ b. goes s.options.cells.new d && b && not (is_paired t (source d) (to (source d) i.uid)) && not (has i.flags DELETED && covers s.options.expunge (source d)) && i.fit)
      (ap (λ n. nat_lt n (to (source d) i.uid)) (highest_moved d) ∙ ltb_sent (k.next (source d)) (to (source d)) (k.renames (source d)) (highest d s) i.uid)
      ∙ ap (λ b. goes s.options.cells.new d && nat_lt (highest d s) i.uid && not b && not (has i.flags DELETED && covers s.options.expunge (source d)) && i.fit)
      (is_paired_moved (source d) i.uid)

  new_moved : (d : Direction) (u : ℕ) → called t (New d (to (source d) u)) ≡ called s (New d u)
  new_moved Pull u =
      any_under (item_under (to Far)) (λ i. i.uid == to Far u && is_new t Pull i) (λ i. i.uid == u && is_new s Pull i)
      (λ i. ap (λ b. b && is_new t Pull (item_under (to Far) i)) (eqb_moved Far i.uid u) ∙ ap (λ b. i.uid == u && b) (is_new_moved Pull i)) s.far
  new_moved Push u =
      any_under (item_under (to Near)) (λ i. i.uid == to Near u && is_new t Push i) (λ i. i.uid == u && is_new s Push i)
      (λ i. ap (λ b. b && is_new t Push (item_under (to Near) i)) (eqb_moved Near i.uid u) ∙ ap (λ b. i.uid == u && b) (is_new_moved Push i)) s.near

  -- ---- all of them

  differ_same : (d : Direction) (set cleared : ℕ) (x : ListedPair) → differ_by set cleared (before d (pair_under to x)) (after d (pair_under to x)) ≡ differ_by set cleared (before d x) (after d x)
  differ_same Pull set cleared x = refl
  differ_same Push set cleared x = refl

  pub called_moved : (q : Propagation) → called t (propagation_under to q) ≡ called s q
  called_moved (New d u) = new_moved d u
  called_moved (Gone d f n) = of_entry_moved f n (is_gone t d) (is_gone s d) (λ e. is_gone_moved d e)
  called_moved (Flags d f n set cleared) =
      ap (λ b. goes s.options.cells.flags d && b)
      (of_pair_moved f n (λ p. differ_by set cleared (before d p) (after d p)) (λ p. differ_by set cleared (before d p) (after d p)) (λ x. differ_same d set cleared x))
  called_moved (Expunge side u) = is_expunged_moved side u
  called_moved (Record f n w) = of_pair_moved f n (λ p. w == recorded t p && not (w == p.recorded)) (λ p. w == recorded s p && not (w == p.recorded)) (λ p. refl)
  called_moved (Drop f n) =
      of_entry_moved f n (λ e. vanishes t Far (to Far f) && vanishes t Near (to Near n)) (λ e. vanishes s Far f && vanishes s Near n)
      (λ e. ap (λ b. b && vanishes t Near (to Near n)) (vanishes_moved Far f) ∙ ap (λ b. vanishes s Far f && b) (vanishes_moved Near n))
