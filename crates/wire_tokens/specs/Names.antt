-- Names with a space between: atoms, as in a list of capabilities, or flags (RFC 9051, section 9: atom, flag, flag-perm).
use Rattle.std.specs.Prelude.{◌≡◌, ℕ, Bool, List, ◌∷◌, codes, ◌⊎◌, ◌==◌, Result}
use Rattle.std.specs.List.{list_any, slice_split}
use Rattle.std.specs.Str.{str_eq_ignore_ascii_case}
use Rattle.wire_reader.specs.declared.stop.Stop.{Stop}
use Rattle.wire_reader.specs.Spelling.{ItemsText}
use Rattle.wire_reader.specs.Reading.{mapped, skip, by_first, byte_at}
use Rattle.wire_reader.specs.Listing.{items_at, ended, ended_by}
use Rattle.wire_reader.specs.Folding.{folded}
use Rattle.wire_tokens.specs.declared.spaced.NameKind.{NameKind}
use Rattle.wire_tokens.specs.declared.spaced.NameKind.TheVariants as kinds
use Rattle.wire_tokens.specs.Atoms.{is_atom_byte, IsAtom, atom_at}

-- `\` and an atom
pub record IsBackslashed (name : List ℕ) : Type 0 where
  pub atom : List ℕ
  pub parts : name ≡ 92 ∷ atom
  pub is : IsAtom atom

abbrev pub IsFlag : List ℕ → Type 0
IsFlag name = IsBackslashed name ⊎ IsAtom name

-- `\*`: other flags may be made
abbrev pub star : List ℕ
star = codes "\\*"

abbrev pub IsPermanentFlag : List ℕ → Type 0
IsPermanentFlag name = (name ≡ star) ⊎ IsFlag name

abbrev pub IsName : NameKind → List ℕ → Type 0
IsName kinds.Atom = IsAtom
IsName kinds.Flag = IsFlag
IsName kinds.PermanentFlag = IsPermanentFlag

abbrev pub NameText : NameKind → List ℕ → List ℕ → Type 0
NameText kind name text = (text ≡ name) × IsName kind text

-- one or more names with a space between
abbrev pub SpacedText : NameKind → List (List ℕ) → List ℕ → Type 0
SpacedText kind = ItemsText 32 (NameText kind)

-- the names in a reply or a command that lists capabilities (RFC 9051, section 9: capability-data, enable-data)
abbrev pub NamesText : List (List ℕ) → List ℕ → Type 0
NamesText = SpacedText kinds.Atom

-- the names of a text
abbrev pub is_space : ℕ → Bool
is_space b = b == 32

abbrev pub names_of : List ℕ → List (List ℕ)
names_of text = slice_split is_space text

abbrev pub IsSpaced : NameKind → List ℕ → Type 0
IsSpaced kind text = SpacedText kind (names_of text) text

-- one of the names is this one, without case
abbrev pub has_name : List ℕ → List (List ℕ) → Bool
has_name name names = list_any (λ n. str_eq_ignore_ascii_case n name) names

-- ---- how they are read

abbrev pub is_backslash : ℕ → Bool
is_backslash b = b == 92

abbrev pub is_star : ℕ → Bool
is_star b = b == 42

abbrev pub backslashed_at : List ℕ → Result (List ℕ × List ℕ) Stop
backslashed_at = mapped (λ a. 92 ∷ a) atom_at

abbrev pub flag_at : List ℕ → Result (List ℕ × List ℕ) Stop
flag_at = by_first is_backslash (skip (byte_at 92) backslashed_at) atom_at

abbrev pub star_at : List ℕ → Result (List ℕ × List ℕ) Stop
star_at = ended is_atom_byte (mapped (λ _. star) (byte_at 42))

abbrev pub star_or_atom_at : List ℕ → Result (List ℕ × List ℕ) Stop
star_or_atom_at = by_first is_star star_at backslashed_at

abbrev pub permanent_flag_at : List ℕ → Result (List ℕ × List ℕ) Stop
permanent_flag_at = by_first is_backslash (skip (byte_at 92) star_or_atom_at) atom_at

abbrev pub name_at : NameKind → List ℕ → Result (List ℕ × List ℕ) Stop
name_at kinds.Atom = atom_at
name_at kinds.Flag = flag_at
name_at kinds.PermanentFlag = permanent_flag_at

abbrev pub spaced_at : NameKind → List ℕ → Result (List (List ℕ) × List ℕ) Stop
spaced_at kind = items_at 32 (name_at kind)

abbrev pub names_at : List ℕ → Result (List (List ℕ) × List ℕ) Stop
names_at = spaced_at kinds.Atom

-- ---- what follows them

-- the same reader, without its value
abbrev pub passed : (List ℕ → Result (List ℕ × List ℕ) Stop) → List ℕ → Result (Unit {0} × List ℕ) Stop
passed = mapped (λ _. tt)

abbrev pub nothing : Unit {0} → List ℕ → Unit {0}
nothing u _ = u

abbrev pub names_passed : NameKind → List ℕ → Result (Unit {0} × List ℕ) Stop
names_passed kind = folded 32 (name_at kind) nothing tt

abbrev pub end_passed : List ℕ → Result (Unit {0} × List ℕ) Stop
end_passed = ended_by is_atom_byte tt
