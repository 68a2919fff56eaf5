-- The lines of a world that say what the run may do (docs/FORMATS.md, "World").
use Rattle.std.specs.Prelude.{◌≡◌, ◌==◌, ℕ, Bool, true, false, List, [], ◌∷◌, ◌++◌, Result, Ok, codes, if◌then◌else◌}
use Rattle.std.specs.List.{slice_split}
use Rattle.rules.specs.declared.options.Cells.{Cells}
use Rattle.rules.specs.declared.options.Options.{Options}
use Rattle.rules.specs.declared.options.Sides.{Sides}
use Rattle.rules.specs.declared.sync_words.SyncFault.{SyncFault}
use Rattle.rules.specs.SyncWords.{sync_cells}
use Rattle.texts.specs.Lines.{IsLine}
use Rattle.worlds.specs.Keywords.{Gives, keyword_lines}

-- a word for a cell that is on
abbrev pub word_if : (is_on : Bool) → (word : List ℕ) → List ℕ
word_if true word = word
word_if false word = []

-- the compound words of the cells that are on, each after a space
abbrev pub words_of : Cells → List ℕ
words_of c =
    word_if c.new.pull (codes " PullNew") ++ (word_if c.gone.pull (codes " PullGone") ++ (word_if c.flags.pull (codes " PullFlags")
    ++ (word_if c.new.push (codes " PushNew") ++ (word_if c.gone.push (codes " PushGone") ++ word_if c.flags.push (codes " PushFlags")))))

-- or the word None
abbrev pub or_none : (words : List ℕ) → List ℕ
or_none [] = codes " None"
or_none (b ∷ bs) = b ∷ bs

abbrev pub expunge_word : Sides → List ℕ
expunge_word s = if s.far then (if s.near then codes "Both" else codes "Far") else if s.near then codes "Near" else codes "None"

abbrev pub options_text : Options → List ℕ
options_text o = codes "sync" ++ (or_none (words_of o.cells) ++ (codes "\nexpunge " ++ (expunge_word o.expunge ++ (10 ∷ keyword_lines o.keywords []))))

-- ---- of a text that is read

-- what words with one space (32) between choose
abbrev pub cells_in : (words : List ℕ) → Result Cells SyncFault
cells_in words = sync_cells (slice_split (λ b. b == 32) words)

-- A text begins with a line `sync` whose words choose the cells of these options, a line `expunge` with their sides, and the keyword lines of
-- their map.
pub record IsHead (options : Options) (following text : List ℕ) : Type 0 where
  pub sync : List ℕ
  pub from_expunge : List ℕ
  pub from_keywords : List ℕ
  pub first : IsLine (codes "sync ") sync from_expunge text
  pub cells : cells_in sync ≡ Ok options.cells
  pub second : IsLine (codes "expunge ") (expunge_word options.expunge) from_keywords from_expunge
  pub gives : Gives options.keywords following from_keywords
