-- What an operation makes of the mailbox of a side, and what it reads there. The two sides share these words: what a
-- server does and what a folder does differ by names and line ends alone.
use Rattle.std.specs.Prelude.{◌≡◌, ℕ, ◌+◌, Bool, false, not, ◌&&◌, ◌||◌, ◌==◌, nat_eq, nat_le, List, [], ◌∷◌, ◌++◌, map, filter, find, Option, None, Some, if◌then◌else◌}
use Rattle.std.specs.List.{list_any}
use Rattle.std.specs.Option.{option_map}
use Rattle.std.specs.Cmp.Lexicographic.{pointwise}
use Rattle.mailcore.specs.declared.listing.Item.{Item}
use Rattle.mailcore.specs.declared.listing.Listing.{Listing}
use Rattle.mailcore.specs.declared.mailbox.Message.{Message}
use Rattle.mailcore.specs.declared.side.Side.{Side}
use Rattle.mailcore.specs.Content.{fit, mark_of}
use Rattle.mailcore.specs.FlagSet.{union, minus}
use Rattle.mailcore.specs.Listed.{item_of}
use Rattle.mailcore.specs.Stores.{Store}

-- ---- what changes it

abbrev pub with_messages : (List Message → List Message) → Store → Store
with_messages change s = record s { messages = change s.messages }

-- a message is added under this UID, and the next one is above it
abbrev pub added : (uid flags : ℕ) (bytes : List ℕ) → Store → Store
added uid flags bytes s = record s {
  next = uid + 1;
  messages = s.messages ++ record { uid = uid; flags = flags; bytes = bytes } ∷ [];
}

-- so many UIDs are given away, and no message has them
abbrev pub set_aside : (count : ℕ) → Store → Store
set_aside count s = record s { next = s.next + count }

-- the flags of the message with this UID are changed
abbrev pub with_flags : (ℕ → ℕ) → (uid : ℕ) → Message → Message
with_flags change uid m = if m.uid == uid then record m { flags = change m.flags } else m

abbrev pub flagged : (ℕ → ℕ) → (uid : ℕ) → Store → Store
flagged change uid = with_messages (map (with_flags change uid))

-- these flags are set
abbrev pub flags_added : (uid flags : ℕ) → Store → Store
flags_added uid flags = flagged (λ f. union f flags) uid

-- these flags are cleared
abbrev pub flags_removed : (uid flags : ℕ) → Store → Store
flags_removed uid flags = flagged (λ f. minus f flags) uid

-- the messages with these UIDs are removed
abbrev pub expunged : (uids : List ℕ) → Store → Store
expunged uids = with_messages (filter (λ m. not (list_any (λ uid. m.uid == uid) uids)))

-- ---- what is read of it

-- what it lists
pub record Shows (side : Side) (s : Store) (listing : Listing) : Type 0 where
  pub validity : listing.validity ≡ s.validity
  pub next : listing.next ≡ s.next
  pub items : listing.items ≡ map (item_of side) s.messages

-- the same, where some messages, by their UIDs, are not asked whether they are fit: these are said to be
abbrev pub item_sparing : Side → (spared : ℕ → Bool) → Message → Item
item_sparing side spared m = record { uid = m.uid; flags = m.flags; fit = spared m.uid || fit side m.bytes }

pub record ShowsSparing (side : Side) (spared : ℕ → Bool) (s : Store) (listing : Listing) : Type 0 where
  pub validity : listing.validity ≡ s.validity
  pub next : listing.next ≡ s.next
  pub items : listing.items ≡ map (item_sparing side spared) s.messages

-- the bytes of the message with this UID, or none where it is not there
abbrev pub bytes_among : (uid : ℕ) → List Message → Option (List ℕ)
bytes_among uid messages = option_map (λ m. m.bytes) (find (λ m. m.uid == uid) messages)

abbrev pub bytes_of : (uid : ℕ) → Store → Option (List ℕ)
bytes_of uid s = bytes_among uid s.messages

abbrev pub is_mark : Option (List ℕ) → (mark : List ℕ) → Bool
is_mark None mark = false
is_mark (Some found) mark = pointwise nat_eq found mark

-- the UID of the first message that is at least `from` and has the mark: the least such, where UIDs rise
abbrev pub marked_among : (mark : List ℕ) (from : ℕ) → List Message → Option ℕ
marked_among mark from messages = option_map (λ m. m.uid) (find (λ m. nat_le from m.uid && is_mark (mark_of m.bytes) mark) messages)

abbrev pub marked_from : (mark : List ℕ) (from : ℕ) → Store → Option ℕ
marked_from mark from s = marked_among mark from s.messages
