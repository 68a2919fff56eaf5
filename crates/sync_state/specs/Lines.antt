-- Texts of lines, and the first line of a text after which no valid text is possible.
use Rattle.std.specs.Prelude.{ℕ, ◌+◌, ◌≡◌, ◌≢◌, List, [], ◌∷◌, ◌++◌, All, length}
use Rattle.sync_state.specs.Cuts.{Lacks}

-- each line with its LF
abbrev pub lines_text : List (List ℕ) → List ℕ
lines_text [] = []
lines_text (line ∷ lines) = line ++ 10 ∷ lines_text lines

-- a line has no LF inside
abbrev pub OneLine : List ℕ → Type 0
OneLine line = Lacks 10 line

-- these lines and some more, or none, are lines that are spelled
pub record Begins (Spells : List (List ℕ) → Type 0) (lines : List (List ℕ)) : Type 0 where
  pub more : List (List ℕ)
  pub spelled : Spells (lines ++ more)

-- a text begins with these lines, and `rest` is what follows them
pub record AreLines (lines : List (List ℕ)) (text rest : List ℕ) : Type 0 where
  pub parts : text ≡ lines_text lines ++ rest
  pub whole : All OneLine lines

-- The whole lines before the line of this number begin a spelling. If that line is whole, no spelling goes on with it;
-- if the text ends before it, the lines are no spelling yet.
pub record IsBadLine (Spells : List (List ℕ) → Type 0) (text : List ℕ) (number : ℕ) : Type 0 where
  pub before : List (List ℕ)
  pub rest : List ℕ
  pub lines : AreLines before text rest
  pub number_is : number ≡ length before + 1
  pub begins : Begins Spells before
  pub stops : (line following : List ℕ) → OneLine line → rest ≡ line ++ 10 ∷ following → ¬ Begins Spells (before ++ line ∷ [])
  pub ends_early : rest ≡ [] → ¬ Spells before

-- the text begins with the line of a value, which follows the word or words of its kind
pub record HasLine {T : Type 0} (start : List ℕ) (fits : T → Type 0) (spelling : T → List ℕ) (value : T) (text following : List ℕ) : Type 0 where
  pub fitting : fits value
  pub parts : text ≡ (start ++ spelling value) ++ 10 ∷ following
  pub one_line : OneLine (start ++ spelling value)

-- no value has the line with which the text begins, if it begins with a line
abbrev pub HasNoLine : {T : Type 0} → List ℕ → (T → Type 0) → (T → List ℕ) → List ℕ → Type 0
HasNoLine {T} start fits spelling text =
    (line following : List ℕ) → OneLine line → text ≡ line ++ 10 ∷ following → (value : T) → fits value → line ≢ start ++ spelling value
