-- Which lines of a text a configuration takes: every one, or the text is refused. And which of its sections.
use Rattle.std.specs.Prelude.{ℕ, ◌≡◌, Bool, true, false, ◌||◌, All, List, [], ◌∷◌, fold, flat_map, Option, Some, None, is_some, option_and_then}
use Rattle.config_words.specs.declared.keyword.FirstWord.{FirstWord}
use Rattle.config_words.specs.declared.keyword.LinePlace.{LinePlace}
use Rattle.config_words.specs.declared.keyword.LinePlace.TheVariants.{Channel}
use Rattle.config_words.specs.Keywords.{fits_at, keyword_named, meant_at}
use Rattle.config_words.specs.Meanings.{Said, SyncIs}
use Rattle.config_words.specs.Words.{arguments_of, is_blank, is_plain, words_of}
use Rattle.config.specs.Configurations.{Part, Parts, ended, no_parts, parted}
use Rattle.config.specs.Sections.{far_in, line_said, near_in, patterns_in, the}
use Rattle.texts.specs.Lines.{lines_of}

-- whether a word is a keyword that may stand at a place
abbrev pub fits_named : LinePlace → Option FirstWord → Bool
fits_named at None = false
fits_named at (Some k) = fits_at at (meant_at at k)

-- something is said, and no cell of Sync twice
abbrev pub IsClear : Option Said → Type 0
IsClear None = ⊥
IsClear (Some (SyncIs None)) = ⊥
IsClear (Some _) = Unit {0}

-- a line of words is taken at a place: its keyword may stand there, the text after it is plain with its quotes closed, and the
-- keyword takes these arguments
pub record IsAccepted (at : LinePlace) (words : List ℕ × List ℕ) : Type 0 where
  pub fits : fits_named at (keyword_named words.0) ≡ true
  pub plain : is_plain words.1 ≡ true
  pub closed : (arguments_of words.1).quoted ≡ false
  pub says : IsClear (line_said at words)

-- so is a comment
abbrev pub AcceptsWords : LinePlace → Option (List ℕ × List ℕ) → Type 0
AcceptsWords at None = Unit {0}
AcceptsWords at (Some words) = IsAccepted at words

-- and an empty line
abbrev pub AcceptsLine : LinePlace → List ℕ → Type 0
AcceptsLine at line = is_blank line ≡ false → AcceptsWords at (words_of line)

-- each of these lines is taken, where it stands after those before it
abbrev pub AcceptsAll : Parts → List (List ℕ) → Type 0
AcceptsAll p [] = Unit {0}
AcceptsAll p (line ∷ lines) = AcceptsLine p.current.kind line × AcceptsAll (parted p line) lines

-- each line of a text
abbrev pub IsWhole : List ℕ → Type 0
IsWhole text = AcceptsAll no_parts (lines_of text)

-- ---- sections

-- lines of a channel name a mailbox, in a store or in both
abbrev pub names_box : List Said → Bool
names_box says = is_some (option_and_then (λ p. p.1) (the far_in says)) || is_some (option_and_then (λ p. p.1) (the near_in says))

-- a channel that names a mailbox has no patterns
abbrev pub IsOneOrMatching : Part → Type 0
IsOneOrMatching s = s.kind ≡ Channel → names_box s.says ≡ true → flat_map patterns_in s.says ≡ []

-- so is each section of a text, the last of which ends with it
abbrev pub AreUnmixed : Parts → Type 0
AreUnmixed p = All IsOneOrMatching p.ended × IsOneOrMatching p.current

abbrev pub HasUnmixed : List ℕ → Type 0
HasUnmixed text = All IsOneOrMatching (ended (fold parted no_parts (lines_of text))).ended
