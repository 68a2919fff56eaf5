-- Which messages are not asked whether they are fit to be copied, by their UIDs.
use Rattle.std.specs.Prelude.{ℕ, Bool, ◌||◌, ◌==◌, nat_le}
use Rattle.std.specs.List.{list_any}
use Rattle.mailcore.specs.declared.spared.Spared.{Spared}

-- those up to one, and some others
abbrev pub spares : Spared → (uid : ℕ) → Bool
spares spared uid = nat_le uid spared.up_to || list_any (λ u. u == uid) spared.others.items
