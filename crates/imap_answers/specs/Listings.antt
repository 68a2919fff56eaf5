-- What the selected mailbox lists.
use Rattle.std.specs.Prelude.{◌≡◌, ℕ, ◌+◌, max, Bool, ◌&&◌, nat_lt, List, [], ◌∷◌, map, Option, None, Some, if◌then◌else◌}
use Rattle.std.specs.List.{fold}
use Rattle.mailcore.specs.declared.side.Side.TheVariants.{Far}
use Rattle.mailcore.specs.declared.listing.Item.{Item}
use Rattle.mailcore.specs.declared.listing.Listing.{Listing}
use Rattle.mailcore.specs.Listed.{item_of}
use Rattle.mailcore.specs.Stores.{Store}
use Rattle.imap_answers.specs.declared.reported.Row.{Row}

-- ---- what is reported about messages, as a list of them

abbrev pub is_uid : ℕ → Bool
is_uid n = nat_lt 0 n && nat_lt n 4294967295

-- a message with its flags, of which the size was reported
abbrev pub item_reported : (uid : ℕ) → (flags : Option ℕ) → (fit : Option Bool) → Option Item
item_reported uid None fit = None
item_reported uid (Some flags) None = None
item_reported uid (Some flags) (Some fit) = if is_uid uid then Some (record { uid = uid; flags = flags; fit = fit }) else None

abbrev pub joined : Option Item → Option (List Item) → Option (List Item)
joined None items = None
joined (Some item) None = None
joined (Some item) (Some items) = Some (item ∷ items)

-- all of them, or none where one has no flags, no size or no UID
abbrev pub items_reported : List (ℕ × Row) → Option (List Item)
items_reported [] = Some []
items_reported (row ∷ rows) = joined (item_reported row.0 row.1.flags row.1.fit) (items_reported rows)

-- ---- what the mailbox lists

-- the least number that is at least `known` and above the UIDs of all messages
abbrev pub next_above : (known : ℕ) → List Item → ℕ
next_above known items = fold (λ next item. max next (item.uid + 1)) known items

-- The mailbox lists this, where a next UID of at least `known` was reported: a listing does not report the next UID, but each message
-- shows that it is above.
pub record ListsFrom (known : ℕ) (s : Store) (listing : Listing) : Type 0 where
  pub validity : listing.validity ≡ s.validity
  pub next : listing.next ≡ next_above known listing.items
  pub items : listing.items ≡ map (item_of Far) s.messages
