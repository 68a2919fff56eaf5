-- A scene whose messages have other UIDs: a question about a UID has the same answer as that about the UID's image.
use Rattle.std.proofs.Common.{◌≡◌, ◌<◌, ℕ, Bool, true, false, cond, eqb, ltb, List, [], ◌∷◌, Option, Some, map, refl, sym, ap, ◌∙◌}
use Rattle.std.specs.Prelude.{All, find, not, ◌&&◌, ◌||◌, ◌==◌, nat_lt, is_some}
use Rattle.std.specs.List.{list_any}
use Rattle.std.specs.Option.{option_map}
use Rattle.std.proofs.lemmas.List.Elements.{All-head, All-tail}
use Rattle.mailcore.specs.declared.side.Side.{Side}
use Rattle.mailcore.specs.declared.side.Side.TheVariants.{Far, Near}
use Rattle.mailcore.specs.declared.side.Direction.{Direction}
use Rattle.mailcore.specs.declared.side.Direction.TheVariants.{Pull, Push}
use Rattle.mailcore.specs.declared.listing.Item.{Item}
use Rattle.mailcore.specs.FlagSet.{DELETED, has}
use Rattle.mailcore.specs.Sides.{source}
use Rattle.rules.specs.declared.entry.Entry.{Entry}
use Rattle.rules.specs.Options.{goes, covers}
use Rattle.rules.specs.Entries.{uid_of, is_full}
use Rattle.rules.specs.Scene.{Scene, items, highest, flags_at, is_listed, is_paired, full_entry}
use Rattle.rules.specs.Called.{is_new}
use Rattle.rules.specs.Renaming.{IsRenaming}
use Rattle.law_outcome.specs.OtherUids.{item_under, scene_under, KeepsNamed}
use Rattle.law_outcome.proofs.Maps.{eqb_sent, ltb_sent}

-- ---- flags of a listed message

option_pick : (b c : Bool) (i j : Item) (x y : Option Item) → b ≡ c → i.flags ≡ j.flags → option_map (λ (k : Item). k.flags) x ≡ option_map (λ (k : Item). k.flags) y →
    option_map (λ (k : Item). k.flags) (cond b (Some i) x) ≡ option_map (λ (k : Item). k.flags) (cond c (Some j) y)
option_pick true true i j x y e f rest = ap (λ n. Some n) f
option_pick true false i j x y e f rest = cc
option_pick false true i j x y e f rest = cc
option_pick false false i j x y e f rest = rest

flags_sent : (next : ℕ) (t : ℕ → ℕ) → IsRenaming next t → (is : List Item) (u : ℕ) → flags_at (map (item_under t) is) (t u) ≡ flags_at is u
flags_sent next t h [] u = refl
flags_sent next t h (i ∷ is) u =
    option_pick (eqb (t i.uid) (t u)) (eqb i.uid u) (item_under t i) i (find (λ (k : Item). k.uid == t u) (map (item_under t) is)) (find (λ (k : Item). k.uid == u) is)
    (eqb_sent next t h i.uid u) refl (flags_sent next t h is u)

-- ---- entries by their UIDs

pub test_sent : (next : ℕ) (t : ℕ → ℕ) → IsRenaming next t → (named u : ℕ) → named < next → eqb named (t u) ≡ eqb named u
test_sent next t h named u l = ap (λ v. eqb v (t u)) (sym (h.same named l)) ∙ eqb_sent next t h named u

any_sent : (side : Side) (next : ℕ) (t : ℕ → ℕ) → IsRenaming next t → (es : List Entry) (u : ℕ) → All (λ e. uid_of side e < next) es →
    list_any (λ e. uid_of side e == t u) es ≡ list_any (λ e. uid_of side e == u) es
any_sent side next t h [] u below = refl
any_sent side next t h (e ∷ es) u below =
    ap (λ b. b || list_any (λ (x : Entry). uid_of side x == t u) es) (test_sent next t h (uid_of side e) u (All-head (λ (x : Entry). uid_of side x < next) e es below))
    ∙ ap (λ b. uid_of side e == u || b) (any_sent side next t h es u (All-tail (λ (x : Entry). uid_of side x < next) e es below))

full_sent : (side : Side) (next : ℕ) (t : ℕ → ℕ) → IsRenaming next t → (es : List Entry) (u : ℕ) → All (λ e. uid_of side e < next) es →
    find (λ e. is_full e && uid_of side e == t u) es ≡ find (λ e. is_full e && uid_of side e == u) es
full_sent side next t h [] u below = refl
full_sent side next t h (e ∷ es) u below =
    ap (λ b. cond (is_full e && b) (Some e) (find (λ (x : Entry). is_full x && uid_of side x == t u) es)) (test_sent next t h (uid_of side e) u (All-head (λ (x : Entry). uid_of side x < next) e es below))
    ∙ ap (λ (o : Option Entry). cond (is_full e && uid_of side e == u) (Some e) o) (full_sent side next t h es u (All-tail (λ (x : Entry). uid_of side x < next) e es below))

-- ---- the scene

module _ (to : Side → ℕ → ℕ) (s : Scene) (k : KeepsNamed to s) where
  pub flags_at_sent : (side : Side) (u : ℕ) → flags_at (items (scene_under to s) side) (to side u) ≡ flags_at (items s side) u
  flags_at_sent Far u = flags_sent (k.next Far) (to Far) (k.renames Far) s.far u
  flags_at_sent Near u = flags_sent (k.next Near) (to Near) (k.renames Near) s.near u

  -- by a UID that the state may name
  pub flags_at_old : (side : Side) (u : ℕ) → u < k.next side → flags_at (items (scene_under to s) side) u ≡ flags_at (items s side) u
  flags_at_old side u l = ap (λ v. flags_at (items (scene_under to s) side) v) (sym ((k.renames side).same u l)) ∙ flags_at_sent side u

  pub is_listed_old : (side : Side) (u : ℕ) → u < k.next side → is_listed (scene_under to s) side u ≡ is_listed s side u
  is_listed_old side u l = ap (λ (o : Option ℕ). is_some o) (flags_at_old side u l)

  pub is_paired_sent : (side : Side) (u : ℕ) → is_paired (scene_under to s) side (to side u) ≡ is_paired s side u
  is_paired_sent side u = any_sent side (k.next side) (to side) (k.renames side) s.entries u (k.named side)

  pub full_entry_sent : (side : Side) (u : ℕ) → full_entry (scene_under to s) side (to side u) ≡ full_entry s side u
  full_entry_sent side u = full_sent side (k.next side) (to side) (k.renames side) s.entries u (k.named side)

  -- ---- new messages

  above_sent : (d : Direction) (u : ℕ) → nat_lt (highest d s) (to (source d) u) ≡ nat_lt (highest d s) u
  above_sent d u =
      ap (λ v. ltb v (to (source d) u)) (sym ((k.renames (source d)).same (highest d s) (k.highest d)))
      ∙ ltb_sent (k.next (source d)) (to (source d)) (k.renames (source d)) (highest d s) u

  highest_sent : (d : Direction) → highest d (scene_under to s) ≡ highest d s
  highest_sent Pull = refl
  highest_sent Push = refl

  pub is_new_sent : (d : Direction) (i : Item) → is_new (scene_under to s) d (item_under (to (source d)) i) ≡ is_new s d i
  is_new_sent d i =
      ap (λ b. goes s.options.cells.new d && b && not (is_paired (scene_under to s) (source d) (to (source d) i.uid)) && not (has i.flags DELETED && covers s.options.expunge (source d)) && i.fit)
      (ap (λ n. nat_lt n (to (source d) i.uid)) (highest_sent d) ∙ above_sent d i.uid)
      ∙ ap (λ b. goes s.options.cells.new d && nat_lt (highest d s) i.uid && not b && not (has i.flags DELETED && covers s.options.expunge (source d)) && i.fit)
      (is_paired_sent (source d) i.uid)
