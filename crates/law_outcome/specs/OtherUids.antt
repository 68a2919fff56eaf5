-- A scene whose messages have other UIDs, and what is called for on it.
use Rattle.std.specs.Prelude.{ℕ, ◌<◌, ◌≡◌, All, map}
use Rattle.mailcore.specs.declared.side.Side.{Side}
use Rattle.mailcore.specs.declared.side.Side.TheVariants.{Far, Near}
use Rattle.mailcore.specs.declared.side.Direction.{Direction}
use Rattle.mailcore.specs.declared.listing.Item.{Item}
use Rattle.mailcore.specs.Sides.{source}
use Rattle.rules.specs.Propagation.{Propagation, New, Gone, Flags, Expunge, Record, Drop}
use Rattle.rules.specs.Entries.{uid_of}
use Rattle.rules.specs.Scene.{Scene, highest}
use Rattle.rules.specs.Called.{called}
use Rattle.rules.specs.Outcome.{entries_after, highest_after}
use Rattle.rules.specs.Renaming.{IsRenaming}

abbrev pub item_under : (ℕ → ℕ) → Item → Item
item_under t i = record { uid = t i.uid; flags = i.flags; fit = i.fit }

-- the messages have other UIDs; the state is as it was
abbrev pub scene_under : (Side → ℕ → ℕ) → Scene → Scene
scene_under to s = record {
  far = map (item_under (to Far)) s.far;
  near = map (item_under (to Near)) s.near;
  entries = s.entries;
  max_pulled = s.max_pulled;
  max_pushed = s.max_pushed;
  options = s.options;
}

abbrev pub propagation_under : (Side → ℕ → ℕ) → Propagation → Propagation
propagation_under to (New d u) = New d (to (source d) u)
propagation_under to (Gone d f n) = Gone d (to Far f) (to Near n)
propagation_under to (Flags d f n set cleared) = Flags d (to Far f) (to Near n) set cleared
propagation_under to (Expunge side u) = Expunge side (to side u)
propagation_under to (Record f n w) = Record (to Far f) (to Near n) w
propagation_under to (Drop f n) = Drop (to Far f) (to Near n)

-- the maps keep the UIDs that the state names
pub record KeepsNamed (to : Side → ℕ → ℕ) (s : Scene) : Type 0 where
  pub next : Side → ℕ
  pub renames : (side : Side) → IsRenaming (next side) (to side)
  pub named : (side : Side) → All (λ e. uid_of side e < next side) s.entries
  pub highest : (d : Direction) → highest d s < next (source d)

-- the same is called for, under the other UIDs
abbrev pub CalledUnder : Type 0
CalledUnder = (to : Side → ℕ → ℕ) (s : Scene) (q : Propagation) → KeepsNamed to s → called (scene_under to s) (propagation_under to q) ≡ called s q

-- the entries after are the same, and only the highest UIDs move
abbrev pub EntriesUnder : Type 0
EntriesUnder = (to : Side → ℕ → ℕ) (s : Scene) → KeepsNamed to s → entries_after (scene_under to s) ≡ entries_after s

abbrev pub HighestUnder : Type 0
HighestUnder = (to : Side → ℕ → ℕ) (s : Scene) (d : Direction) → KeepsNamed to s → highest_after (scene_under to s) d ≡ to (source d) (highest_after s d)
