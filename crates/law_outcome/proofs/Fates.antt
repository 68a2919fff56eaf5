-- A scene whose messages have other UIDs: flags after, expunges, what vanishes, and the entries after.
use Rattle.std.proofs.Common.{arith, ◌≡◌, ◌<◌, ℕ, Bool, true, false, cond, List, [], ◌∷◌, Option, Some, None, map, max, refl, sym, ap, ◌∙◌}
use Rattle.std.specs.Prelude.{Contains, filter, not, ◌&&◌, ◌||◌, ◌==◌, unwrap_or}
use Rattle.std.specs.List.{list_any}
use Rattle.std.proofs.lemmas.List.Elements.{All-contains}
use Rattle.mailcore.specs.declared.side.Side.{Side}
use Rattle.mailcore.specs.declared.side.Side.TheVariants.{Far, Near}
use Rattle.mailcore.specs.declared.side.Direction.{Direction}
use Rattle.mailcore.specs.declared.side.Direction.TheVariants.{Pull, Push}
use Rattle.mailcore.specs.declared.listing.Item.{Item}
use Rattle.mailcore.specs.FlagSet.{DELETED, has}
use Rattle.mailcore.specs.Sides.{source, other}
use Rattle.rules.specs.declared.entry.Entry.{Entry}
use Rattle.rules.specs.declared.entry.ListedPair.{ListedPair}
use Rattle.rules.specs.Propagation.{Drop}
use Rattle.rules.specs.Options.{goes, covers}
use Rattle.rules.specs.Entries.{both, uid_of, is_full}
use Rattle.rules.specs.Scene.{Scene, items, flags_at, is_listed, full_entry}
use Rattle.rules.specs.Called.{is_gone, with_flags, pair_between, pair_of, flags_with, flags_by, flags_after, is_deleted_then, is_expunged, vanishes, called}
use Rattle.rules.specs.Outcome.{recorded_or, entry_after, entries_after, greatest, highest_after}
use Rattle.rules.specs.Renaming.{IsRenaming}
use Rattle.rules.proofs.Walks.{Contains-first, Contains-rest, filter_contains, find_some}
use Rattle.law_outcome.proofs.Maps.{max_sent}
use Rattle.law_outcome.specs.OtherUids.{item_under, scene_under, KeepsNamed}
use Rattle.law_outcome.proofs.Scenes.{flags_at_sent, flags_at_old, is_listed_old, full_entry_sent}

abbrev put : Entry → (far_gone near_gone : Bool) → (flags : ℕ) → Entry
put e a b x = record { far = cond a None e.far; near = cond b None e.near; flags = x }

-- ---- walks

pub map_same : {X Y : Type 0} (f g : X → Y) (xs : List X) → ((x : X) → Contains xs x → f x ≡ g x) → map f xs ≡ map g xs
map_same f g [] h = refl
map_same f g (x ∷ xs) h =
    ap (λ y. y ∷ map f xs) (h x (Contains-first x xs)) ∙ ap (λ ys. g x ∷ ys) (map_same f g xs (λ y c. h y (Contains-rest x y xs c)))

pub filter_same : {X : Type 0} (p q : X → Bool) (xs : List X) → ((x : X) → Contains xs x → p x ≡ q x) → filter p xs ≡ filter q xs
filter_same p q [] h = refl
filter_same p q (x ∷ xs) h =
    ap (λ b. cond b (x ∷ filter p xs) (filter p xs)) (h x (Contains-first x xs))
    ∙ ap (λ ys. cond (q x) (x ∷ ys) ys) (filter_same p q xs (λ y c. h y (Contains-rest x y xs c)))

greatest_sent : (next : ℕ) (t : ℕ → ℕ) → IsRenaming next t → 0 < next → (is : List Item) → greatest (map (item_under t) is) ≡ t (greatest is)
greatest_sent next t h l [] = sym (h.same 0 l)
greatest_sent next t h l (i ∷ is) = ap (λ n. max (t i.uid) n) (greatest_sent next t h l is) ∙ max_sent next t h i.uid (greatest is)

module _ (to : Side → ℕ → ℕ) (s : Scene) (k : KeepsNamed to s) where
  -- ---- flags after

  flags_with_same : (side : Side) (flags r : ℕ) (o : Option ℕ) → flags_with (scene_under to s) side flags r o ≡ flags_with s side flags r o
  flags_with_same side flags r None = refl
  flags_with_same side flags r (Some theirs) = refl

  flags_by_same : (side : Side) (flags : ℕ) (o : Option Entry) → ((e : Entry) → o ≡ Some e → Contains s.entries e) → flags_by (scene_under to s) side flags o ≡ flags_by s side flags o
  flags_by_same side flags None c = refl
  flags_by_same side flags (Some e) c =
      ap (λ o. flags_with (scene_under to s) side flags e.flags o)
      (flags_at_old to s k (other side) (uid_of (other side) e) (All-contains (λ (x : Entry). uid_of (other side) x < k.next (other side)) s.entries e (k.named (other side)) (c e refl)))
      ∙ flags_with_same side flags e.flags (flags_at (items s (other side)) (uid_of (other side) e))

  pub flags_after_sent : (side : Side) (u flags : ℕ) → flags_after (scene_under to s) side (to side u) flags ≡ flags_after s side u flags
  flags_after_sent side u flags =
      ap (λ o. flags_by (scene_under to s) side flags o) (full_entry_sent to s k side u)
      ∙ flags_by_same side flags (full_entry s side u) (λ e h. (find_some (λ (x : Entry). is_full x && uid_of side x == u) s.entries e h).0)

  -- ---- expunges

  deleted_same : (side : Side) (u : ℕ) (o : Option ℕ) → is_deleted_then (scene_under to s) side (to side u) o ≡ is_deleted_then s side u o
  deleted_same side u None = refl
  deleted_same side u (Some flags) = ap (λ n. has n DELETED) (flags_after_sent side u flags)

  pub is_expunged_sent : (side : Side) (u : ℕ) → is_expunged (scene_under to s) side (to side u) ≡ is_expunged s side u
  is_expunged_sent side u =
      ap (λ b. covers s.options.expunge side && b)
      (ap (λ o. is_deleted_then (scene_under to s) side (to side u) o) (flags_at_sent to s k side u) ∙ deleted_same side u (flags_at (items s side) u))

  is_expunged_old : (side : Side) (u : ℕ) → u < k.next side → is_expunged (scene_under to s) side u ≡ is_expunged s side u
  is_expunged_old side u l = ap (λ v. is_expunged (scene_under to s) side v) (sym ((k.renames side).same u l)) ∙ is_expunged_sent side u

  -- ---- entries

  pub vanishes_old : (side : Side) (u : ℕ) → u < k.next side → vanishes (scene_under to s) side u ≡ vanishes s side u
  vanishes_old side u l =
      ap (λ b. u == 0 || not b || is_expunged (scene_under to s) side u) (is_listed_old to s k side u l)
      ∙ ap (λ b. u == 0 || not (is_listed s side u) || b) (is_expunged_old side u l)

  drop_same : (e : Entry) → Contains s.entries e → called (scene_under to s) (Drop (uid_of Far e) (uid_of Near e)) ≡ called s (Drop (uid_of Far e) (uid_of Near e))
  drop_same e c =
      ap (λ b. list_any (λ (x : Entry). uid_of Far x == uid_of Far e && uid_of Near x == uid_of Near e && (b && vanishes (scene_under to s) Near (uid_of Near e))) s.entries)
      (vanishes_old Far (uid_of Far e) (All-contains (λ (x : Entry). uid_of Far x < k.next Far) s.entries e (k.named Far) c))
      ∙ ap (λ b. list_any (λ (x : Entry). uid_of Far x == uid_of Far e && uid_of Near x == uid_of Near e && (vanishes s Far (uid_of Far e) && b)) s.entries)
      (vanishes_old Near (uid_of Near e) (All-contains (λ (x : Entry). uid_of Near x < k.next Near) s.entries e (k.named Near) c))

  pub is_gone_same : (d : Direction) (e : Entry) → uid_of Far e < k.next Far → uid_of Near e < k.next Near → is_gone (scene_under to s) d e ≡ is_gone s d e
  is_gone_same Pull e f n =
      ap (λ b. goes s.options.cells.gone Pull && is_full e && not b && is_listed (scene_under to s) Near (uid_of Near e)) (is_listed_old to s k Far (uid_of Far e) f)
      ∙ ap (λ b. goes s.options.cells.gone Pull && is_full e && not (is_listed s Far (uid_of Far e)) && b) (is_listed_old to s k Near (uid_of Near e) n)
  is_gone_same Push e f n =
      ap (λ b. goes s.options.cells.gone Push && is_full e && not b && is_listed (scene_under to s) Far (uid_of Far e)) (is_listed_old to s k Near (uid_of Near e) n)
      ∙ ap (λ b. goes s.options.cells.gone Push && is_full e && not (is_listed s Near (uid_of Near e)) && b) (is_listed_old to s k Far (uid_of Far e) f)

  between_same : (r : ℕ) (f n : Option ℕ) → unwrap_or f 0 < k.next Far → unwrap_or n 0 < k.next Near → pair_between (scene_under to s) r (both f n) ≡ pair_between s r (both f n)
  between_same r None n l m = refl
  between_same r (Some f) None l m = refl
  between_same r (Some f) (Some n) l m =
      ap (λ o. with_flags f n r o (flags_at (items (scene_under to s) Near) n)) (flags_at_old to s k Far f l)
      ∙ ap (λ o. with_flags f n r (flags_at s.far f) o) (flags_at_old to s k Near n m)

  pub pair_of_same : (e : Entry) → uid_of Far e < k.next Far → uid_of Near e < k.next Near → pair_of (scene_under to s) e ≡ pair_of s e
  pair_of_same e f n = between_same e.flags e.far e.near f n

  recorded_same : (flags : ℕ) (o : Option ListedPair) → recorded_or (scene_under to s) flags o ≡ recorded_or s flags o
  recorded_same flags None = refl
  recorded_same flags (Some p) = refl

  entry_same : (e : Entry) → Contains s.entries e → entry_after (scene_under to s) e ≡ entry_after s e
  entry_same e c =
      let f = All-contains (λ (x : Entry). uid_of Far x < k.next Far) s.entries e (k.named Far) c in
      let n = All-contains (λ (x : Entry). uid_of Near x < k.next Near) s.entries e (k.named Near) c in
      ap (λ b. put e b (is_gone (scene_under to s) Push e) (recorded_or (scene_under to s) e.flags (pair_of (scene_under to s) e))) (is_gone_same Pull e f n)
      ∙ ap (λ b. put e (is_gone s Pull e) b (recorded_or (scene_under to s) e.flags (pair_of (scene_under to s) e))) (is_gone_same Push e f n)
      ∙ ap (λ o. put e (is_gone s Pull e) (is_gone s Push e) (recorded_or (scene_under to s) e.flags o)) (pair_of_same e f n)
      ∙ ap (λ x. put e (is_gone s Pull e) (is_gone s Push e) x) (recorded_same e.flags (pair_of s e))

  pub entries_after_same : entries_after (scene_under to s) ≡ entries_after s
  entries_after_same =
      ap (λ es. map (entry_after (scene_under to s)) es)
      (filter_same (λ (e : Entry). not (called (scene_under to s) (Drop (uid_of Far e) (uid_of Near e)))) (λ e. not (called s (Drop (uid_of Far e) (uid_of Near e)))) s.entries
      (λ e c. ap (λ b. not b) (drop_same e c)))
      ∙ map_same (entry_after (scene_under to s)) (entry_after s) (filter (λ e. not (called s (Drop (uid_of Far e) (uid_of Near e)))) s.entries)
      (λ e c. entry_same e (filter_contains (λ (x : Entry). not (called s (Drop (uid_of Far x) (uid_of Near x)))) s.entries e c).0)

  -- ---- the highest UIDs

  raised : (next : ℕ) (t : ℕ → ℕ) → IsRenaming next t → (b : Bool) (high : ℕ) (is : List Item) → high < next →
      cond b (max high (greatest (map (item_under t) is))) high ≡ t (cond b (max high (greatest is)) high)
  raised next t h true high is l =
      ap (λ n. max n (greatest (map (item_under t) is))) (sym (h.same high l))
      ∙ ap (λ n. max (t high) n) (greatest_sent next t h (omega arith) is)
      ∙ max_sent next t h high (greatest is)
  raised next t h false high is l = sym (h.same high l)

  pub highest_after_sent : (d : Direction) → highest_after (scene_under to s) d ≡ to (source d) (highest_after s d)
  highest_after_sent Pull = raised (k.next Far) (to Far) (k.renames Far) (goes s.options.cells.new Pull) s.max_pulled s.far (k.highest Pull)
  highest_after_sent Push = raised (k.next Near) (to Near) (k.renames Near) (goes s.options.cells.new Push) s.max_pushed s.near (k.highest Push)
