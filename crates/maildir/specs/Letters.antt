-- The letters after `:2,` in a name, and the flags that they stand for.
use Rattle.std.specs.Prelude.{ℕ, suc, ◌^◌, Bool, ◌||◌, ◌==◌, List, [], ◌∷◌, filter, fold, codes, if◌then◌else◌}
use Rattle.std.specs.List.{list_any}
use Rattle.mailcore.specs.declared.keywords.Keyword.{Keyword}
use Rattle.mailcore.specs.FlagSet.{union}
use Rattle.mailcore.specs.FlagNames.{LETTERS as FLAG_LETTERS, all_flags, letter, letters_of}

abbrev pub has_letter : List ℕ → ℕ → Bool
has_letter letters b = list_any (λ x. x == b) letters

-- ---- the flags that letters stand for

-- where the letters of flags are these, and their places those from one on: the set of the flag with this letter, empty if none has it
abbrev pub flag_from : (from : ℕ) → List ℕ → (b : ℕ) → ℕ
flag_from from [] b = 0
flag_from from (x ∷ xs) b = if x == b then 2 ^ from else flag_from (suc from) xs b

-- the set of the flag with this letter, empty if none has it
unfoldable pub flag_with : (b : ℕ) → ℕ
flag_with b = flag_from 0 FLAG_LETTERS b

abbrev pub with_letter : (found b : ℕ) → ℕ
with_letter found b = union found (flag_with b)

-- the flags whose letters are there, those without a name in IMAP too; other letters stand for none
unfoldable pub flags_in : List ℕ → ℕ
flags_in letters = fold with_letter 0 letters

-- ---- the letters of a name whose message has some flags

-- the letter of one of the six, or of a keyword of the map
abbrev pub is_known_letter : List Keyword → ℕ → Bool
is_known_letter keywords b = list_any (λ flag. letter flag == b) all_flags || list_any (λ k. k.letter == b) keywords

-- the letters of ASCII, in its order
abbrev pub LETTERS : List ℕ
LETTERS = codes "ABCDEFGHIJKLMNOPQRSTUVWXYZabcdefghijklmnopqrstuvwxyz"

-- a letter that is known stands there if it is one of the flags' letters, any other if it stood there before
abbrev pub stays : List Keyword → (before : List ℕ) (flags b : ℕ) → Bool
stays keywords before flags b = has_letter (if is_known_letter keywords b then letters_of flags else before) b

-- the letters of a name once its message has these flags: other letters than those that are known are kept
unfoldable pub letters_with : List Keyword → (before : List ℕ) (flags : ℕ) → List ℕ
letters_with keywords before flags = filter (stays keywords before flags) LETTERS
