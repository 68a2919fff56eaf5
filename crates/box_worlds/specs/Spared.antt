-- What a world shows of a listing, where some messages are said to be fit.
use Rattle.std.specs.Prelude.{ℕ, Bool, ◌||◌}
use Rattle.mailcore.specs.declared.listing.Item.{Item}

-- a listed message, said to be fit if it is spared
abbrev pub item_spared : (spared : ℕ → Bool) → Item → Item
item_spared spared item = record item { fit = spared item.uid || item.fit }
