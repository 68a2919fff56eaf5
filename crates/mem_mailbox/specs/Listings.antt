-- What a mailbox of a side lists.
use Rattle.std.specs.Prelude.{◌≡◌, ℕ, Bool, map}
use Rattle.mailcore.specs.declared.listing.Item.{Item}
use Rattle.mailcore.specs.declared.listing.Listing.{Listing}
use Rattle.mailcore.specs.declared.mailbox.Message.{Message}
use Rattle.mailcore.specs.declared.side.Side.{Side}
use Rattle.mailcore.specs.declared.side.Side.TheVariants.{Far, Near}
use Rattle.mailcore.specs.Listed.{item_of}
use Rattle.mailcore.specs.Operations.{item_sparing}
use Rattle.mailcore.specs.Stores.{Store}

-- what it lists of a message
abbrev pub item_in : Side → (spared : ℕ → Bool) → Message → Item
item_in Far spared m = item_of Far m
item_in Near spared m = item_sparing Near spared m

pub record ShowsIn (side : Side) (spared : ℕ → Bool) (s : Store) (listing : Listing) : Type 0 where
  pub validity : listing.validity ≡ s.validity
  pub next : listing.next ≡ s.next
  pub items : listing.items ≡ map (item_in side spared) s.messages
