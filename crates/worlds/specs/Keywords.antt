-- The keyword lines of a text, and the map that they give.
use Rattle.std.specs.Prelude.{ℕ, ◌+◌, ◌≡◌, ◌++◌, List, [], ◌∷◌, codes, length}
use Rattle.mailcore.specs.declared.keywords.Keyword.{Keyword}
use Rattle.mailcore.specs.KeywordNames.{IsMap}
use Rattle.worlds.specs.declared.fault.WorldFault.{WorldFault}
use Rattle.worlds.specs.declared.fault.WorldFault.TheVariants.{Line, NoMemory}
use Rattle.texts.specs.Lines.{IsLine}

-- what follows the word `keyword ` in a keyword's line: its letter, a space and its name
abbrev pub keyword_text : Keyword → List ℕ
keyword_text k = k.letter ∷ 32 ∷ k.name

-- a line for each keyword, and what follows them
abbrev pub keyword_lines : List Keyword → (following : List ℕ) → List ℕ
keyword_lines [] following = following
keyword_lines (k ∷ ks) following = codes "keyword " ++ (keyword_text k ++ 10 ∷ keyword_lines ks following)

-- the keyword lines with which a text begins are those of a map; `following` is what follows them
pub record Gives (keywords : List Keyword) (following text : List ℕ) : Type 0 where
  pub is_map : IsMap keywords
  pub lines : text ≡ keyword_lines keywords following
  pub all : (line rest : List ℕ) → ¬ IsLine (codes "keyword ") line rest following

-- no map has these keywords and, as its last one, that of a line
abbrev pub HasNoNext : List Keyword → (line : List ℕ) → Type 0
HasNoNext keywords line = (k : Keyword) → keyword_text k ≡ line → ¬ IsMap (keywords ++ k ∷ [])

-- `NoMemory`, or the line with this number is a bad one: no map goes on with it
abbrev pub IsOfBadNext : List Keyword → (line : List ℕ) → (number : ℕ) → WorldFault → Type 0
IsOfBadNext keywords line number (Line n) = (n ≡ number) × HasNoNext keywords line
IsOfBadNext keywords line number NoMemory = Unit {0}

-- the first bad one of the keyword lines with which a text begins, where `taken` lines stand before it; those before the bad one
-- are those of a map
pub record IsFirstBad (taken : ℕ) (text : List ℕ) (number : ℕ) : Type 0 where
  pub keywords : List Keyword
  pub line : List ℕ
  pub following : List ℕ
  pub rest : List ℕ
  pub is_map : IsMap keywords
  pub lines : text ≡ keyword_lines keywords rest
  pub is_line : IsLine (codes "keyword ") line following rest
  pub bad : HasNoNext keywords line
  pub number_is : number ≡ taken + length keywords + 1

-- `NoMemory`, or the fault of that line
abbrev pub IsOfFirstBad : (taken : ℕ) (text : List ℕ) → WorldFault → Type 0
IsOfFirstBad taken text (Line n) = IsFirstBad taken text n
IsOfFirstBad taken text NoMemory = Unit {0}

-- what a line adds to a map: one keyword after the others
pub record Adds (old : List Keyword) (line : List ℕ) (new : List Keyword) : Type 0 where
  pub keyword : Keyword
  pub text : keyword_text keyword ≡ line
  pub following : new ≡ old ++ keyword ∷ []
  pub is_map : IsMap new
