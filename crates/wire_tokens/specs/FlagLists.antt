-- Lists of flags in brackets (RFC 9051, section 9: flag-list, flag-perm, mbx-list-flags).
use Rattle.std.specs.Prelude.{◌≡◌, ℕ, Bool, List, [], ◌∷◌, ◌++◌, ◌==◌, if◌then◌else◌, Result}
use Rattle.std.specs.List.{fold}
use Rattle.mailcore.specs.declared.flags.Flag.{Flag}
use Rattle.mailcore.specs.declared.keywords.Keyword.{Keyword}
use Rattle.mailcore.specs.FlagNames.{imap_name, place}
use Rattle.mailcore.specs.FlagSet.{has}
use Rattle.mailcore.specs.KeywordNames.{place_of}
use Rattle.wire_reader.specs.declared.stop.Stop.{Stop}
use Rattle.wire_reader.specs.Spelling.{◌⨾◌, Is}
use Rattle.wire_reader.specs.Reading.{mapped, skip, keep, by_first, byte_at}
use Rattle.wire_tokens.specs.declared.spaced.NameKind.{NameKind}
use Rattle.wire_tokens.specs.declared.spaced.NameKind.TheVariants as kinds
use Rattle.wire_tokens.specs.Names.{names_of, SpacedText, spaced_at}

-- no name, or names with a space between
abbrev pub ListedText : NameKind → List (List ℕ) → List ℕ → Type 0
ListedText kind [] text = text ≡ []
ListedText kind (name ∷ names) text = SpacedText kind (name ∷ names) text

-- such a list in brackets
abbrev pub BracketedText : NameKind → List (List ℕ) → List ℕ → Type 0
BracketedText kind names = Is (40 ∷ []) ⨾ ListedText kind names ⨾ Is (41 ∷ [])

-- the names of a text that may be empty
abbrev pub listed : List ℕ → List (List ℕ)
listed [] = []
listed (b ∷ bs) = names_of (b ∷ bs)

abbrev pub IsListed : NameKind → List ℕ → Type 0
IsListed kind text = ListedText kind (listed text) text

-- flags, by their names
abbrev pub FlagsText : List (List ℕ) → List ℕ → Type 0
FlagsText = BracketedText kinds.Flag

-- and `\*` among them
abbrev pub PermanentFlagsText : List (List ℕ) → List ℕ → Type 0
PermanentFlagsText = BracketedText kinds.PermanentFlag

-- ---- how they are read

abbrev pub is_close : ℕ → Bool
is_close b = b == 41

abbrev pub no_name_at : List ℕ → Result (List (List ℕ) × List ℕ) Stop
no_name_at = mapped (λ _. []) (byte_at 41)

abbrev pub after_bracket : NameKind → List ℕ → Result (List (List ℕ) × List ℕ) Stop
after_bracket kind = by_first is_close no_name_at (keep (spaced_at kind) (byte_at 41))

abbrev pub bracketed_at : NameKind → List ℕ → Result (List (List ℕ) × List ℕ) Stop
bracketed_at kind = skip (byte_at 40) (after_bracket kind)

abbrev pub flags_at : List ℕ → Result (List (List ℕ) × List ℕ) Stop
flags_at = bracketed_at kinds.Flag

abbrev pub permanent_flags_at : List ℕ → Result (List (List ℕ) × List ℕ) Stop
permanent_flags_at = bracketed_at kinds.PermanentFlag

-- ---- how they are written

-- after a text of names one more
abbrev pub with_name : List ℕ → List ℕ → List ℕ
with_name [] name = name
with_name (b ∷ bs) name = (b ∷ bs) ++ 32 ∷ name

-- names with a space between
abbrev pub spaced_out : List (List ℕ) → List ℕ
spaced_out names = fold with_name [] names

-- the name of a flag that is in a set
abbrev pub with_flag_name : (flags : ℕ) → List ℕ → Flag → List ℕ
with_flag_name flags text flag = if has flags (place flag) then with_name text (imap_name flag) else text

abbrev pub with_keyword_name : (flags : ℕ) → List ℕ → Keyword → List ℕ
with_keyword_name flags text k = if has flags (place_of k.letter) then with_name text k.name else text
