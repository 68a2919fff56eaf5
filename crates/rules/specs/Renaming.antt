-- Maps of UIDs that keep the old ones and send the new ones, in their order, to new ones.
use Rattle.std.specs.Prelude.{ℕ, ◌<◌, ◌≤◌, ◌≡◌}
use Rattle.std.specs.Option.{option_map}
use Rattle.mailcore.specs.declared.side.Side.{Side}
use Rattle.mailcore.specs.declared.side.Side.TheVariants.{Far, Near}
use Rattle.rules.specs.declared.entry.Entry.{Entry}

-- below `next` each UID stays, and from there on they rise strictly, to UIDs of at least `next`
pub record IsRenaming (next : ℕ) (to : ℕ → ℕ) : Type 0 where
  pub same : (u : ℕ) → u < next → to u ≡ u
  pub rises : (u v : ℕ) → next ≤ u → u < v → to u < to v
  pub least : (u : ℕ) → next ≤ u → next ≤ to u

-- an entry under other UIDs
abbrev pub entry_under : (to : Side → ℕ → ℕ) → Entry → Entry
entry_under to e = record { far = option_map (to Far) e.far; near = option_map (to Near) e.near; flags = e.flags }
