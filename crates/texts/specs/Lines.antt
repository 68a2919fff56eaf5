-- The lines of a text: an LF (10) ends a line.
use Rattle.std.specs.Prelude.{ℕ, ◌+◌, ◌≡◌, ◌==◌, ◌≢◌, ◌++◌, List, [], ◌∷◌, All, count_by, if◌then◌else◌}
use Rattle.texts.specs.declared.lines.Lines.{Lines}

-- how many line ends a text has
abbrev pub line_ends : List ℕ → ℕ
line_ends text = count_by (λ b. b == 10) text

-- a text begins with a line, which begins with `start` and goes on with `line`; `following` is what follows its LF
pub record IsLine (start line following text : List ℕ) : Type 0 where
  pub parts : text ≡ start ++ (line ++ 10 ∷ following)
  pub one_line : All (λ b. b ≢ 10) line

-- how many whole lines there are, those that are taken and those that are not
abbrev pub line_count : Lines → ℕ
line_count lines = lines.taken + line_ends lines.rest.now

abbrev pub put_before : ℕ → List (List ℕ) → List (List ℕ)
put_before b [] = (b ∷ []) ∷ []
put_before b (line ∷ lines) = (b ∷ line) ∷ lines

-- its lines where the end of the text also ends a line
abbrev pub lines_of : List ℕ → List (List ℕ)
lines_of [] = []
lines_of (b ∷ bs) = if b == 10 then [] ∷ lines_of bs else put_before b (lines_of bs)
