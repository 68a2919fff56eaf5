-- What the answer to a listing has reported of the messages of a mailbox (RFC 9051, sections 6.4.5 and 7.5.2).
use Rattle.std.specs.Prelude.{◌≡◌, ◌-◌, ◌++◌, ◌∷◌, [], List, ℕ, Bool, true, false, codes, take, Option, None, Some, Vec, nat_lt, if◌then◌else◌}
use Rattle.std.specs.Global.{Global}
use Rattle.std.specs.Ordering.{nat_cmp}
use Rattle.std.specs.BTreeMap as maps
use Rattle.std.specs.BTreeSet as sets
use Rattle.link_face.specs.declared.row.ItemName.{ItemName}
use Rattle.link_face.specs.declared.row.ItemName.TheVariants.{Uid, Flags, Size}
use Rattle.link_face.specs.declared.message_count.MessageCount.{MessageCount}
use Rattle.link_face.specs.declared.listed_rows.Half.{Half}
use Rattle.link_face.specs.declared.listed_rows.ListedRows.{ListedRows}
use Rattle.link_face.specs.declared.turning.Turn.{Turn}
use Rattle.link_face.specs.declared.turning.Turn.TheVariants.{Keep, Replace, Omit, Stop}
use Rattle.link_face.specs.declared.extent.Extent.{Extent}
use Rattle.link_face.specs.declared.extent.Extent.TheVariants as extents
use Rattle.link_face.specs.Heads.{ends_well}
use Rattle.link_face.specs.Rows.{HasUid, Item, IsRowWritten, RowText, has_listing, number_in, value_of}

-- ---- messages by their numbers

abbrev pub none_standing : MessageCount
none_standing = record { exists = 0; asked = 0; reached = 0; missing = 0 }

-- none of those that are there was reported yet
abbrev pub asked : MessageCount → MessageCount
asked s = record { exists = s.exists; asked = s.exists; reached = 0; missing = s.exists }

abbrev pub with_exists : ℕ → MessageCount → MessageCount
with_exists n s = record s { exists = n }

-- One that came later is none of those that were there. One that was not reported is not missing any more.
abbrev pub expunged : ℕ → MessageCount → MessageCount
expunged n s =
    if nat_lt s.asked n then record s { exists = s.exists - 1 }
    else (if nat_lt s.reached n then record s { exists = s.exists - 1; asked = s.asked - 1; missing = s.missing - 1 }
    else record s { exists = s.exists - 1; asked = s.asked - 1; reached = s.reached - 1 })

abbrev pub reported : ℕ → MessageCount → MessageCount
reported n s = if nat_lt s.asked n then s else record s { reached = (if nat_lt s.reached n then n else s.reached); missing = s.missing - 1 }

-- ---- messages reported by half

-- this was kept of the items of this name
abbrev pub Keeps : ItemName → List Item → Option (Vec ℕ Global) → Type 0
Keeps name items None = value_of name items ≡ None
Keeps name items (Some value) = value_of name items ≡ Some value.items

-- so much of what these items say of a message is kept as a listing asks for
pub record IsHalfOf (items : List Item) (half : Half) : Type 0 where
  pub flags : Keeps Flags items half.flags
  pub size : Keeps Size items half.size

abbrev pub item_of : (name : List ℕ) → Option (Vec ℕ Global) → List Item
item_of name None = []
item_of name (Some value) = record { name = name; value = value.items } ∷ []

-- the items that are kept
abbrev pub items_of : Half → List Item
items_of half = item_of (codes "FLAGS") half.flags ++ item_of (codes "RFC822.SIZE") half.size

abbrev pub items_in : Option Half → List Item
items_in None = []
items_in (Some half) = items_of half

-- ---- what was reported of a message

abbrev pub half_at : ListedRows → ℕ → Option Half
half_at rows uid = maps.get nat_cmp rows.halves uid

-- the items that were reported of it while some were missing
abbrev pub held : ListedRows → ℕ → List Item
held rows uid = items_in (half_at rows uid)

abbrev pub is_whole : ListedRows → ℕ → Bool
is_whole rows uid = sets.contains nat_cmp rows.whole uid

-- another message
abbrev pub IsOther : (uid other : ℕ) → Type 0
IsOther uid other = maps.is_at (nat_cmp uid) other ≡ false

-- Of this message that is known by half, and of others what was known.
pub record HoldsHalf (old new : ListedRows) (uid : ℕ) (half : Option Half) : Type 0 where
  pub here : half_at new uid ≡ half
  pub others : (q : ℕ) → IsOther uid q → half_at new q ≡ half_at old q

-- the message with this number and this UID is reported whole, and counted unless it was before
pub record AddsWhole (old new : ListedRows) (number uid : ℕ) : Type 0 where
  pub here : is_whole new uid ≡ true
  pub others : (q : ℕ) → IsOther uid q → is_whole new q ≡ is_whole old q
  pub halves : HoldsHalf old new uid None
  pub counted : new.standing ≡ (if is_whole old uid then old.standing else reported number old.standing)

-- what these items say of this message is kept
pub record KeepsHalf (old new : ListedRows) (items : List Item) (uid : ℕ) : Type 0 where
  pub half : Half
  pub is : IsHalfOf items half
  pub halves : HoldsHalf old new uid (Some half)
  pub whole : new.whole ≡ old.whole
  pub standing : new.standing ≡ old.standing

-- No message is reported by half, and none is missing.
pub record IsComplete (rows : ListedRows) : Type 0 where
  pub halves : rows.halves.entries ≡ []
  pub missing : rows.standing.missing ≡ 0

-- ---- rows of an answer

-- A row with all items of a listing counts as reported, another one does not.
pub record NotesRow (old new : ListedRows) (number : ℕ) (items : List Item) : Type 0 where
  pub whole : has_listing items ≡ true → (uid : ℕ) → HasUid items uid → AddsWhole old new number uid
  pub other : has_listing items ≡ false → new ≡ old

-- these bytes after FETCH have such items
pub record NotesText (old new : ListedRows) (number : ℕ) (bytes : List ℕ) : Type 0 where
  pub items : List Item
  pub text : RowText items bytes
  pub noted : NotesRow old new number items

-- What is handed out in place of a row that lacks items, where these are all that was reported of its message: a row of them all, once they
-- are whole, and nothing before; then they are kept.
abbrev pub Gathers : (old new : ListedRows) (number : List ℕ) (items : List Item) (uid : ℕ) → Turn → Type 0
Gathers old new number items uid Keep = ⊥
Gathers old new number items uid (Replace row) = IsRowWritten number items row.items × AddsWhole old new (number_in number) uid
Gathers old new number items uid Omit = KeepsHalf old new items uid
Gathers old new number items uid Stop = Unit {0}

-- of a row that names no message, or one that was reported whole
abbrev pub IsLeftOut : (old new : ListedRows) → Turn → Type 0
IsLeftOut old new Keep = ⊥
IsLeftOut old new (Replace row) = ⊥
IsLeftOut old new Omit = new ≡ old
IsLeftOut old new Stop = Unit {0}

-- with what was reported of its message before
abbrev pub Joins : (old new : ListedRows) (number : List ℕ) (items : List Item) (uid : ℕ) → (is_whole : Bool) → Turn → Type 0
Joins old new number items uid true turn = IsLeftOut old new turn
Joins old new number items uid false turn = Gathers old new number (held old uid ++ items) uid turn

pub record JoinsRow (old new : ListedRows) (number : List ℕ) (items : List Item) (turn : Turn) : Type 0 where
  pub named : (uid : ℕ) → HasUid items uid → Joins old new number items uid (is_whole old uid) turn
  pub unnamed : value_of Uid items ≡ None → IsLeftOut old new turn

-- ---- the end of an answer

-- the reply that was found at the front
abbrev pub front_in : Extent → List ℕ → List ℕ
front_in extents.Begun bytes = []
front_in (extents.Heard len) bytes = take len bytes
front_in (extents.Listed len) bytes = take len bytes
front_in (extents.Whole len) bytes = take len bytes
front_in extents.TooLong bytes = []

-- if it is the OK of a listing, nothing is missing
abbrev pub EndsWhole : (raw : List ℕ) → ListedRows → Type 0
EndsWhole raw rows = ends_well raw ≡ true → rows.is_listing ≡ true → IsComplete rows
