-- What lists of messages keep.
use Rattle.std.specs.Prelude.{ℕ, ◌<◌, Bool, ◌&&◌, nat_lt, List, All, AllPairs}
use Rattle.std.specs.List.{list_all}
use Rattle.mailcore.specs.declared.side.Side.{Side}
use Rattle.mailcore.specs.declared.listing.Item.{Item}
use Rattle.mailcore.specs.declared.mailbox.Message.{Message}
use Rattle.mailcore.specs.Content.{fit}

-- listed messages stand in the order of their UIDs
abbrev pub IsRising : List Item → Type 0
IsRising items = AllPairs (λ a b. a.uid < b.uid) items

-- and so do stored ones
abbrev pub AreRising : List Message → Type 0
AreRising messages = AllPairs (λ a b. a.uid < b.uid) messages

-- each UID is below the next one that the mailbox gives
abbrev pub AreBelow : List Message → ℕ → Type 0
AreBelow messages next = All (λ m. m.uid < next) messages

-- what a listing shows of a stored message
abbrev pub item_of : Side → Message → Item
item_of side m = record { uid = m.uid; flags = m.flags; fit = fit side m.bytes }

-- a message with this UID may follow these
abbrev pub may_end : List Message → (next uid : ℕ) → Bool
may_end messages next uid = nat_lt uid next && list_all (λ m. nat_lt m.uid uid) messages
