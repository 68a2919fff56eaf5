-- What the names in a folder say of the messages of a look.
use Rattle.std.specs.Prelude.{◌≡◌, ℕ, Bool, false, not, ◌&&◌, ◌==◌, nat_eq, List, [], ◌∷◌, ◌++◌, drop, find, map, take, length, position, codes, Option, None, Some, is_some, unwrap_or, if◌then◌else◌}
use Rattle.std.specs.Char.{is_ascii_digit}
use Rattle.std.specs.List.{filter_map, list_any, slice_split, starts_with}
use Rattle.std.specs.Option.{option_map, option_or}
use Rattle.texts.specs.Cut.{Sides, cut_first}
use Rattle.maildir.specs.declared.folder.FileName.{FileName}
use Rattle.maildir.specs.declared.folder.Place.{Place}
use Rattle.maildir.specs.declared.folder.Place.TheVariants.{Cur, New}
use Rattle.maildir.specs.declared.standing.NameReading.{NameReading}
use Rattle.maildir.specs.declared.standing.Stale.{Stale}
use Rattle.maildir.specs.declared.standing.Stale.TheVariants.{There, Unmarked}
use Rattle.maildir.specs.Names.{COLON, uid_in, uid_of}

-- ---- one name

-- the digits at the head of a text
abbrev pub digits_ahead : List ℕ → List ℕ
digits_ahead text = take (unwrap_or (position (λ b. not (is_ascii_digit b)) text) (length text)) text

-- the UID after `U=` at the head of a piece of a name, whatever comes after its digits
abbrev pub uid_ahead : List ℕ → Option ℕ
uid_ahead piece = if starts_with nat_eq piece (codes "U=") then uid_of (digits_ahead (drop 2 piece)) else None

abbrev pub is_among : List ℕ → ℕ → Bool
is_among uids uid = list_any (λ one. one == uid) uids

-- a text is the whole name of a message
abbrev pub is_spelled : List ℕ → Bool
is_spelled name = is_some (uid_in name)

abbrev pub LETTER_T : ℕ
LETTER_T = 84

abbrev pub has_mark : Option Sides → Bool
has_mark None = false
has_mark (Some (front, flags)) = list_any (λ b. b == LETTER_T) flags

-- the letter of a message that is marked as deleted stands after the first colon
abbrev pub is_marked : List ℕ → Bool
is_marked name = has_mark (cut_first COLON name)

abbrev pub COMMA : ℕ
COMMA = 44

-- the UIDs that stand in a name, each at the head of a piece that follows a comma
abbrev pub uids_ahead : List ℕ → List ℕ
uids_ahead name = filter_map uid_ahead (drop 1 (slice_split (λ b. b == COMMA) name))

-- it begins with a dot
abbrev pub is_hidden : List ℕ → Bool
is_hidden name = starts_with nat_eq name (codes ".")

-- its own one alone where it is the whole name of a message; else those that stand in it, but for a hidden name, which is no message's
abbrev pub uids_beside : (own : Option ℕ) → (name : List ℕ) → List ℕ
uids_beside (Some uid) name = uid ∷ []
uids_beside None name = if is_hidden name then [] else uids_ahead name

-- the UIDs that a name reports
abbrev pub reported_uids : List ℕ → List ℕ
reported_uids name = uids_beside (uid_in name) name

-- the first UID that a name reports and that is one of these
abbrev pub reported_among : (uids name : List ℕ) → Option ℕ
reported_among uids name = find (is_among uids) (reported_uids name)

-- ---- what names show of messages that count as removed, or as marked as deleted

-- the name reports a message that counts as removed
abbrev pub there : (gone : List ℕ) → FileName → Option Stale
there gone file = option_map (λ uid. There uid file) (reported_among gone file.name)

-- it is the whole name of a message that counts as marked as deleted, and has not the letter
abbrev pub unmarked : (marked : List ℕ) → FileName → Option Stale
unmarked marked file =
    if is_spelled file.name && not (is_marked file.name) then option_map (λ uid. Unmarked uid file) (reported_among marked file.name) else None

-- what a name shows by itself
abbrev pub shown : (gone marked : List ℕ) → FileName → Option Stale
shown gone marked file = option_or (there gone file) (unmarked marked file)

abbrev pub shown_by : (gone marked : List ℕ) → List FileName → List Stale
shown_by gone marked files = filter_map (shown gone marked) files

-- it is the whole name of a message that counts as marked as deleted, with the letter
abbrev pub as_marked : (marked : List ℕ) → FileName → Option ℕ
as_marked marked file = if is_spelled file.name && is_marked file.name then reported_among marked file.name else None

-- it only begins as the name of such a message, and has not the letter
abbrev pub odd : (marked : List ℕ) → FileName → Option (ℕ × FileName)
odd marked file =
    if not (is_spelled file.name) && not (is_marked file.name) then option_map (λ uid. (uid, file)) (reported_among marked file.name) else None

-- the first odd name whose message was not met, marked as deleted
abbrev pub odd_shown : (met : List ℕ) → List (ℕ × FileName) → Option Stale
odd_shown met odds = option_map (λ one. Unmarked one.0 one.1) (find (λ one. not (is_among met one.0)) odds)

abbrev pub first : {T : Type 0} → List T → Option T
first [] = None
first (x ∷ xs) = Some x

-- The first message that is not as it was counted, by these names: what a name shows by itself, or else an odd name of a message that no
-- whole one shows to be marked as deleted.
abbrev pub first_stale : (gone marked : List ℕ) → List FileName → Option Stale
first_stale gone marked files = option_or (first (shown_by gone marked files)) (odd_shown (filter_map (as_marked marked) files) (filter_map (odd marked) files))

-- ---- names that were read

abbrev pub files_in : Place → List (List ℕ) → List FileName
files_in place names = map (λ name. record { place = place; name = name }) names

-- a look has met these names more, which show nothing by themselves
pub record HasMet (sought : List ℕ) (files : List FileName) (met met_now : List ℕ) (odds odds_now : List (ℕ × FileName)) : Type 0 where
  pub marked : met_now ≡ met ++ filter_map (as_marked sought) files
  pub odd_names : odds_now ≡ odds ++ filter_map (odd sought) files

-- `new` was read and then `cur`, both readings were noted, and this is what the names show
pub record HasLooked (gone marked : List ℕ) (found : Option Stale) (old now : List NameReading) : Type 0 where
  pub fresh : NameReading
  pub current : NameReading
  pub places : (fresh.place ≡ New) × (current.place ≡ Cur)
  pub noted : now ≡ current ∷ (fresh ∷ old)
  pub finds : found ≡ first_stale gone marked (files_in New fresh.names.items ++ files_in Cur current.names.items)

-- an error came: of `new` and then `cur` those that were read until then were noted, and nothing else
pub record HasBegun (old now : List NameReading) : Type 0 where
  pub readings : List NameReading
  pub unread : List Place
  pub noted : now ≡ readings ++ old
  pub places : unread ++ map (λ reading. reading.place) readings ≡ Cur ∷ (New ∷ [])
