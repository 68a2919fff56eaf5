-- What is called for on a scene whose messages have other UIDs.
use Rattle.std.proofs.Common.{◌≡◌, ◌<◌, ℕ, Bool, eqb, List, [], ◌∷◌, Option, Some, None, map, refl, sym, ap, ◌∙◌, arith}
use Rattle.std.specs.Prelude.{Contains, not, ◌&&◌, ◌||◌, ◌==◌, unwrap_or, is_some}
use Rattle.std.specs.List.{list_any}
use Rattle.std.proofs.lemmas.List.Elements.{All-contains}
use Rattle.mailcore.specs.declared.side.Side.{Side}
use Rattle.mailcore.specs.declared.side.Side.TheVariants.{Far, Near}
use Rattle.mailcore.specs.declared.side.Direction.{Direction}
use Rattle.mailcore.specs.declared.side.Direction.TheVariants.{Pull, Push}
use Rattle.mailcore.specs.Sides.{source}
use Rattle.rules.specs.declared.entry.Entry.{Entry}
use Rattle.rules.specs.declared.entry.ListedPair.{ListedPair}
use Rattle.rules.specs.Propagation.{Propagation, New, Gone, Flags, Expunge, Record, Drop}
use Rattle.rules.specs.Options.{goes}
use Rattle.rules.specs.Entries.{both, uid_of}
use Rattle.rules.specs.Scene.{Scene, flags_at, is_listed, highest}
use Rattle.rules.specs.Called.{is_new, is_gone, with_flags, pair_between, pair_of, before, after, recorded, differ_by, is_expunged, vanishes, of_entry, is_pair_with, of_pair, called}
use Rattle.rules.proofs.Walks.{Contains-first, Contains-rest}
use Rattle.law_outcome.specs.OtherUids.{item_under, scene_under, propagation_under, KeepsNamed}
use Rattle.law_outcome.proofs.Maps.{eqb_sent}
use Rattle.law_outcome.proofs.Scenes.{test_sent, flags_at_sent, is_new_sent}
use Rattle.law_outcome.proofs.Fates.{is_gone_same, pair_of_same, is_expunged_sent}

any_same : {X : Type 0} (p q : X → Bool) (xs : List X) → ((x : X) → Contains xs x → p x ≡ q x) → list_any p xs ≡ list_any q xs
any_same p q [] h = refl
any_same p q (x ∷ xs) h =
    ap (λ b. b || list_any p xs) (h x (Contains-first x xs)) ∙ ap (λ b. q x || b) (any_same p q xs (λ y c. h y (Contains-rest x y xs c)))

any_under : {X Y : Type 0} (f : X → Y) (p : Y → Bool) (q : X → Bool) → ((x : X) → p (f x) ≡ q x) → (xs : List X) → list_any p (map f xs) ≡ list_any q xs
any_under f p q h [] = refl
any_under f p q h (x ∷ xs) = ap (λ b. b || list_any p (map f xs)) (h x) ∙ ap (λ b. q x || b) (any_under f p q h xs)

module _ (to : Side → ℕ → ℕ) (s : Scene) (k : KeepsNamed to s) where
  entry_below : (side : Side) (e : Entry) → Contains s.entries e → uid_of side e < k.next side
  entry_below side e c = All-contains (λ (x : Entry). uid_of side x < k.next side) s.entries e (k.named side) c

  same_uid : (side : Side) (named u : ℕ) → named < k.next side → eqb named (to side u) ≡ eqb named u
  same_uid side named u l = test_sent (k.next side) (to side) (k.renames side) named u l

  -- ---- facts of an entry, and of a pair

  of_entry_under : (f n : ℕ) (p q : Entry → Bool) → ((e : Entry) → Contains s.entries e → p e ≡ q e) → of_entry (scene_under to s) (to Far f) (to Near n) p ≡ of_entry s f n q
  of_entry_under f n p q h =
      any_same (λ (e : Entry). uid_of Far e == to Far f && uid_of Near e == to Near n && p e) (λ e. uid_of Far e == f && uid_of Near e == n && q e) s.entries
      (λ e c.
      ap (λ b. b && uid_of Near e == to Near n && p e) (same_uid Far (uid_of Far e) f (entry_below Far e c))
      ∙ ap (λ b. uid_of Far e == f && b && p e) (same_uid Near (uid_of Near e) n (entry_below Near e c))
      ∙ ap (λ b. uid_of Far e == f && uid_of Near e == n && b) (h e c))

  pair_test : (f n : ℕ) (p q : ListedPair → Bool) → ((x : ListedPair) → p x ≡ q x) → (x y r : ℕ) (a b : Option ℕ) → x < k.next Far → y < k.next Near →
      is_pair_with (to Far f) (to Near n) p (with_flags x y r a b) ≡ is_pair_with f n q (with_flags x y r a b)
  pair_test f n p q h x y r None b l m = refl
  pair_test f n p q h x y r (Some a) None l m = refl
  pair_test f n p q h x y r (Some a) (Some b) l m =
      let pair : ListedPair = record { far = x; near = y; far_flags = a; near_flags = b; recorded = r } in
      ap (λ t. t && y == to Near n && p pair) (same_uid Far x f l)
      ∙ ap (λ t. x == f && t && p pair) (same_uid Near y n m)
      ∙ ap (λ t. x == f && y == n && t) (h pair)

  between_test : (f n : ℕ) (p q : ListedPair → Bool) → ((x : ListedPair) → p x ≡ q x) → (r : ℕ) (a b : Option ℕ) → unwrap_or a 0 < k.next Far → unwrap_or b 0 < k.next Near →
      is_pair_with (to Far f) (to Near n) p (pair_between s r (both a b)) ≡ is_pair_with f n q (pair_between s r (both a b))
  between_test f n p q h r None b l m = refl
  between_test f n p q h r (Some x) None l m = refl
  between_test f n p q h r (Some x) (Some y) l m = pair_test f n p q h x y r (flags_at s.far x) (flags_at s.near y) l m

  of_pair_under : (f n : ℕ) (p q : ListedPair → Bool) → ((x : ListedPair) → p x ≡ q x) → of_pair (scene_under to s) (to Far f) (to Near n) p ≡ of_pair s f n q
  of_pair_under f n p q h =
      any_same (λ (e : Entry). is_pair_with (to Far f) (to Near n) p (pair_of (scene_under to s) e)) (λ e. is_pair_with f n q (pair_of s e)) s.entries
      (λ e c.
      ap (λ o. is_pair_with (to Far f) (to Near n) p o) (pair_of_same to s k e (entry_below Far e c) (entry_below Near e c))
      ∙ between_test f n p q h e.flags e.far e.near (entry_below Far e c) (entry_below Near e c))

  -- ---- drops

  first_named : (side : Side) → 0 < k.next side
  first_named Far = let l : highest Pull s < k.next Far = k.highest Pull in omega arith
  first_named Near = let l : highest Push s < k.next Near = k.highest Push in omega arith

  vanishes_sent : (side : Side) (u : ℕ) → vanishes (scene_under to s) side (to side u) ≡ vanishes s side u
  vanishes_sent side u =
      ap (λ b. b || not (is_listed (scene_under to s) side (to side u)) || is_expunged (scene_under to s) side (to side u))
      (ap (λ v. eqb (to side u) v) (sym ((k.renames side).same 0 (first_named side))) ∙ eqb_sent (k.next side) (to side) (k.renames side) u 0)
      ∙ ap (λ (o : Option ℕ). u == 0 || not (is_some o) || is_expunged (scene_under to s) side (to side u)) (flags_at_sent to s k side u)
      ∙ ap (λ b. u == 0 || not (is_listed s side u) || b) (is_expunged_sent to s k side u)

  -- ---- all of them

  new_under : (d : Direction) (u : ℕ) → called (scene_under to s) (New d (to (source d) u)) ≡ called s (New d u)
  new_under Pull u =
      any_under (item_under (to Far)) (λ i. i.uid == to Far u && is_new (scene_under to s) Pull i) (λ i. i.uid == u && is_new s Pull i)
      (λ i. ap (λ b. b && is_new (scene_under to s) Pull (item_under (to Far) i)) (eqb_sent (k.next Far) (to Far) (k.renames Far) i.uid u) ∙ ap (λ b. i.uid == u && b) (is_new_sent to s k Pull i)) s.far
  new_under Push u =
      any_under (item_under (to Near)) (λ i. i.uid == to Near u && is_new (scene_under to s) Push i) (λ i. i.uid == u && is_new s Push i)
      (λ i. ap (λ b. b && is_new (scene_under to s) Push (item_under (to Near) i)) (eqb_sent (k.next Near) (to Near) (k.renames Near) i.uid u) ∙ ap (λ b. i.uid == u && b) (is_new_sent to s k Push i)) s.near

  pub called_sent : (q : Propagation) → called (scene_under to s) (propagation_under to q) ≡ called s q
  called_sent (New d u) = new_under d u
  called_sent (Gone d f n) = of_entry_under f n (is_gone (scene_under to s) d) (is_gone s d) (λ e c. is_gone_same to s k d e (entry_below Far e c) (entry_below Near e c))
  called_sent (Flags d f n set cleared) =
      ap (λ b. goes s.options.cells.flags d && b)
      (of_pair_under f n (λ p. differ_by set cleared (before d p) (after d p)) (λ p. differ_by set cleared (before d p) (after d p)) (λ p. refl))
  called_sent (Expunge side u) = is_expunged_sent to s k side u
  called_sent (Record f n w) = of_pair_under f n (λ p. w == recorded (scene_under to s) p && not (w == p.recorded)) (λ p. w == recorded s p && not (w == p.recorded)) (λ p. refl)
  called_sent (Drop f n) =
      of_entry_under f n (λ e. vanishes (scene_under to s) Far (to Far f) && vanishes (scene_under to s) Near (to Near n)) (λ e. vanishes s Far f && vanishes s Near n)
      (λ e c. ap (λ b. b && vanishes (scene_under to s) Near (to Near n)) (vanishes_sent Far f) ∙ ap (λ b. vanishes s Far f && b) (vanishes_sent Near n))
