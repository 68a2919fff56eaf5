-- The names of files in a Maildir folder.
use Rattle.std.specs.Prelude.{◌≡◌, ℕ, ◌+◌, ◌<◌, ◌^◌, Bool, true, false, not, ◌&&◌, ◌||◌, ◌==◌, nat_eq, nat_lt, nat_le, IsTrue, List, [], ◌∷◌, ◌++◌, length, drop, slice_index, codes, decimal, Option, None, Some, is_none, if◌then◌else◌}
use Rattle.std.specs.List.{list_all, list_any, starts_with}
use Rattle.std.specs.Option.{option_map, option_and_then, option_copied}
use Rattle.std.specs.Str.Parse.{digits_value}
use Rattle.std.specs.Cmp.Lexicographic.{pointwise}
use Rattle.texts.specs.Cut.{Sides, cut_first, cut_last}
use Rattle.maildir.specs.declared.name.Name.{Name}

-- what a name says: a base, a UID or none, and the letters after `:2,`, if that stands there
pub record NameParts : Type 0 where
  pub base : List ℕ
  pub uid : Option ℕ
  pub letters : Option (List ℕ)

-- what a name in memory says
abbrev pub parts_of : Name → NameParts
parts_of name = record { base = name.base.now; uid = name.uid; letters = option_copied name.letters }

-- ---- how it is spelled

abbrev pub uid_text : Option ℕ → List ℕ
uid_text None = []
uid_text (Some uid) = codes ",U=" ++ decimal uid

abbrev pub letters_text : Option (List ℕ) → List ℕ
letters_text None = []
letters_text (Some letters) = codes ":2," ++ letters

-- the base, then `,U=` and the UID or nothing, then `:2,` and the letters or nothing
abbrev pub name_text : NameParts → List ℕ
name_text name = name.base ++ uid_text name.uid ++ letters_text name.letters

-- no `/`, NUL or `:`
abbrev pub is_base_byte : ℕ → Bool
is_base_byte b = not (b == 47 || b == 0 || b == 58)

-- at least one byte, of which the first is no `.`
abbrev pub is_base : List ℕ → Bool
is_base bs = not (length bs == 0) && not (slice_index bs 0 == 46) && list_all is_base_byte bs

-- 1 to 4294967294
abbrev pub is_uid : ℕ → Bool
is_uid n = nat_lt 0 n && nat_lt (n + 1) (2 ^ 32)

abbrev pub is_letter : ℕ → Bool
is_letter b = nat_le 65 b && nat_le b 90 || nat_le 97 b && nat_le b 122

-- the first letter, if there is one, is above this byte
abbrev pub is_below : ℕ → List ℕ → Bool
is_below a [] = true
is_below a (b ∷ bs) = nat_lt a b

-- letters of ASCII, strictly rising
abbrev pub are_letters : List ℕ → Bool
are_letters [] = true
are_letters (b ∷ bs) = is_letter b && is_below b bs && are_letters bs

abbrev pub has_letters : Option (List ℕ) → Bool
has_letters None = true
has_letters (Some letters) = are_letters letters

-- `,U=` and a UID stand at the end, after at least one byte
pub record EndsInUid (text : List ℕ) : Type 0 where
  pub front : List ℕ
  pub uid : ℕ
  pub parts : text ≡ front ++ uid_text (Some uid)
  pub some : 0 < length front
  pub is : IsTrue (is_uid uid)

-- a base without a UID does not end in one
abbrev pub IsUidOf : List ℕ → Option ℕ → Type 0
IsUidOf base None = ¬ EndsInUid base
IsUidOf base (Some uid) = IsTrue (is_uid uid)

-- these bytes are the spelling of a name
pub record NameText (name : NameParts) (text : List ℕ) : Type 0 where
  pub parts : text ≡ name_text name
  pub base : IsTrue (is_base name.base)
  pub uid : IsUidOf name.base name.uid
  pub letters : IsTrue (has_letters name.letters)

-- ---- how it is read

abbrev pub COLON : ℕ
COLON = 58

abbrev pub COMMA : ℕ
COMMA = 44

-- the UID with this decimal text
abbrev pub uid_of : List ℕ → Option ℕ
uid_of digits =
    if is_uid (digits_value 10 digits) && pointwise nat_eq (decimal (digits_value 10 digits)) digits
    then Some (digits_value 10 digits) else None

-- the UID after a comma, with what stands before the comma
abbrev pub uid_after : Option Sides → Option (List ℕ × ℕ)
uid_after None = None
uid_after (Some ([], rest)) = None
uid_after (Some (b ∷ front, rest)) =
    if starts_with nat_eq rest (codes "U=") then option_map (λ uid. (b ∷ front, uid)) (uid_of (drop 2 rest)) else None

-- the UID at the end of a text, with what stands before it
abbrev pub uid_at_end : List ℕ → Option (List ℕ × ℕ)
uid_at_end text = uid_after (cut_last COMMA text)

abbrev pub with_letters : List ℕ → Option (List ℕ) → Option (List ℕ × ℕ) → NameParts
with_letters front letters None = record { base = front; uid = None; letters = letters }
with_letters front letters (Some (base, uid)) = record { base = base; uid = Some uid; letters = letters }

abbrev pub if_base : NameParts → Option NameParts
if_base name = if is_base name.base then Some name else None

abbrev pub name_before : List ℕ → Option (List ℕ) → Option NameParts
name_before front letters = if_base (with_letters front letters (uid_at_end front))

-- a text without the letters after its first colon, and these letters
abbrev pub letters_after : List ℕ → Option Sides → Option (List ℕ × Option (List ℕ))
letters_after text None = Some (text, None)
letters_after text (Some (front, rest)) =
    if starts_with nat_eq rest (codes "2,") && are_letters (drop 2 rest) then Some (front, Some (drop 2 rest)) else None

abbrev pub letters_at_end : List ℕ → Option (List ℕ × Option (List ℕ))
letters_at_end text = letters_after text (cut_first COLON text)

abbrev pub name_of_parts : Option (List ℕ × Option (List ℕ)) → Option NameParts
name_of_parts None = None
name_of_parts (Some (front, letters)) = name_before front letters

-- the name that a text spells, or none
unfoldable pub name_of : List ℕ → Option NameParts
name_of text = name_of_parts (letters_at_end text)

-- the UID that a name has, if it is spelled as one
abbrev pub uid_in : List ℕ → Option ℕ
uid_in name = option_and_then (λ parts. parts.uid) (name_of name)

abbrev pub lacks_uid : Option NameParts → Bool
lacks_uid None = false
lacks_uid (Some parts) = is_none parts.uid

-- a name that is spelled as one and has no UID: its file waits for one
abbrev pub is_waiting : List ℕ → Bool
is_waiting name = lacks_uid (name_of name)

-- the UID is one of these
abbrev pub is_one_of : List ℕ → Option ℕ → Bool
is_one_of uids None = false
is_one_of uids (Some uid) = list_any (λ u. uid == u) uids
