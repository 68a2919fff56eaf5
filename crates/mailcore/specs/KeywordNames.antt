-- The flags by their names in IMAP: the six that it names, and the keywords that a map gives a letter.
use Rattle.std.specs.Prelude.{◌≡◌, ℕ, ◌-◌, ◌^◌, ◌<◌, Bool, true, false, not, ◌&&◌, ◌||◌, ◌==◌, nat_le, nat_lt, List, [], ◌∷◌, ◌++◌, map, filter, find, is_none, All, AllPairs, Option, Some, None, if◌then◌else◌}
use Rattle.std.specs.List.{list_any, fold}
use Rattle.std.specs.Option.{option_map}
use Rattle.std.specs.Str.{str_eq_ignore_ascii_case}
use Rattle.mailcore.specs.declared.flags.Flag.{Flag}
use Rattle.mailcore.specs.declared.flags.Flag.TheVariants.{Draft, Flagged, Forwarded, Answered, Seen, Deleted}
use Rattle.mailcore.specs.declared.keywords.Keyword.{Keyword}
use Rattle.mailcore.specs.declared.keywords.KeywordFault.{KeywordFault}
use Rattle.mailcore.specs.declared.keywords.KeywordFault.TheVariants.{BadLetter, BadName, Repeated}
use Rattle.mailcore.specs.AtomBytes.{is_atom}
use Rattle.mailcore.specs.FlagNames.{flag_named, imap_name, place}
use Rattle.mailcore.specs.FlagSet.{FLAGS, common, has, union}

-- ---- keywords

-- the place of a letter from a on: after the six
abbrev pub place_of : ℕ → ℕ
place_of letter = letter - 91

-- names compare without case
abbrev pub has_name : List ℕ → Keyword → Bool
has_name name k = str_eq_ignore_ascii_case name k.name

-- an atom that names none of the six
abbrev pub is_keyword_name : List ℕ → Bool
is_keyword_name name = is_atom name && is_none (flag_named name)

-- a to z
abbrev pub is_keyword_letter : ℕ → Bool
is_keyword_letter letter = nat_le 97 letter && nat_le letter 122

-- what a map keeps: letters a to z that rise, names that are none of the six, and no name twice, whatever its case
pub record IsMap (keywords : List Keyword) : Type 0 where
  pub letters : All (λ k. is_keyword_letter k.letter ≡ true) keywords
  pub rising : AllPairs (λ a b. a.letter < b.letter) keywords
  pub names : All (λ k. is_keyword_name k.name ≡ true) keywords
  pub apart : AllPairs (λ a b. has_name b.name a ≡ false) keywords

-- with one keyword more, in the order of letters
abbrev pub with_keyword : Keyword → List Keyword → List Keyword
with_keyword k [] = k ∷ []
with_keyword k (x ∷ others) = if nat_lt k.letter x.letter then k ∷ x ∷ others else x ∷ with_keyword k others

-- it has the letter or the name
abbrev pub is_like : (letter : ℕ) (name : List ℕ) → Keyword → Bool
is_like letter name k = k.letter == letter || has_name name k

-- why a keyword is refused, if it is
abbrev pub keyword_refused : (letter : ℕ) (name : List ℕ) → List Keyword → Option KeywordFault
keyword_refused letter name keywords =
    if not (is_keyword_letter letter) then Some BadLetter
    else if not (is_keyword_name name) then Some BadName
    else if list_any (is_like letter name) keywords then Some Repeated
    else None

-- ---- letters and names

abbrev pub keyword_named : List Keyword → (name : List ℕ) → Option Keyword
keyword_named keywords name = find (has_name name) keywords

abbrev pub letter_of : List Keyword → (name : List ℕ) → Option ℕ
letter_of keywords name = option_map (λ k. k.letter) (keyword_named keywords name)

abbrev pub name_of : List Keyword → (letter : ℕ) → Option (List ℕ)
name_of keywords letter = option_map (λ k. k.name) (find (λ k. k.letter == letter) keywords)

-- ---- sets by names

abbrev pub set_of : Option ℕ → ℕ
set_of None = 0
set_of (Some letter) = 2 ^ place_of letter

-- the set of the flag with this name, or the empty set if there is none
abbrev pub named_by : List Keyword → Option Flag → (name : List ℕ) → ℕ
named_by keywords (Some flag) name = 2 ^ place flag
named_by keywords None name = set_of (letter_of keywords name)

unfoldable pub flags_named : List Keyword → (name : List ℕ) → ℕ
flags_named keywords name = named_by keywords (flag_named name) name

abbrev pub with_named : List Keyword → ℕ → List ℕ → ℕ
with_named keywords set name = union set (flags_named keywords name)

-- the flags that have these names; a name that no flag has is ignored
abbrev pub named_set : List Keyword → List (List ℕ) → ℕ
named_set keywords names = fold (with_named keywords) 0 names

-- ---- how a set is written

abbrev pub written_order : List Flag
written_order = Answered ∷ Deleted ∷ Draft ∷ Flagged ∷ Seen ∷ Forwarded ∷ []

-- the names of those of some flags that are in a set
abbrev pub six_names : ℕ → List Flag → List (List ℕ)
six_names flags some = map imap_name (filter (λ flag. has flags (place flag)) some)

-- and of keywords
abbrev pub keyword_names : ℕ → List Keyword → List (List ℕ)
keyword_names flags keywords = map (λ k. k.name) (filter (λ k. has flags (place_of k.letter)) keywords)

-- the names of the flags of a set, those of keywords after the six; a letter without a name has none
abbrev pub names_of : List Keyword → ℕ → List (List ℕ)
names_of keywords flags = six_names flags written_order ++ keyword_names flags keywords

-- ---- the flags that have a name

-- the flag at a place has a name
abbrev pub is_known : List Keyword → ℕ → Bool
is_known keywords k = list_any (λ flag. k == place flag) written_order || list_any (λ kw. k == place_of kw.letter) keywords

-- each flag of the set has a name
pub record IsWithin (keywords : List Keyword) (flags : ℕ) : Type 0 where
  pub set : flags < 2 ^ FLAGS
  pub known : (k : ℕ) → k < FLAGS → has flags k ≡ true → is_known keywords k ≡ true

abbrev pub with_flag : ℕ → Flag → ℕ
with_flag set flag = union set (2 ^ place flag)

abbrev pub with_letter : ℕ → Keyword → ℕ
with_letter set k = union set (2 ^ place_of k.letter)

-- all flags that have a name: the six and those of the keywords
unfoldable pub known_set : List Keyword → ℕ
known_set keywords = fold with_letter (fold with_flag 0 written_order) keywords

-- those flags of a set that have a name
unfoldable pub kept : List Keyword → ℕ → ℕ
kept keywords flags = common flags (known_set keywords)
