-- Patterns of mailbox names: `*` stands for any characters, `%` for any but `/` (RFC 9051, section 6.3.9.1).
use Rattle.std.specs.Prelude.{ℕ, ◌≡◌, ◌≢◌, ◌==◌, Bool, true, false, List, [], ◌∷◌, All, MatchBool, if◌then◌else◌}
use Rattle.std.specs.List.{concat, list_any}

-- what a character of a pattern may stand for: `*` (42) for any characters, `%` (37) for any without `/` (47), another for itself
abbrev pub StandsFor : (character : ℕ) (part : List ℕ) → Type 0
StandsFor p part = MatchBool (p == 42) (Unit {0}) (MatchBool (p == 37) (All (λ c. c ≢ 47) part) (part ≡ p ∷ []))

-- one part for each character of a pattern, which that character may stand for
abbrev pub StandForEach : (pattern : List ℕ) (parts : List (List ℕ)) → Type 0
StandForEach [] [] = Unit {0}
StandForEach [] (part ∷ parts) = ⊥
StandForEach (p ∷ ps) [] = ⊥
StandForEach (p ∷ ps) (part ∷ parts) = StandsFor p part × StandForEach ps parts

-- a pattern matches a name that can be cut into such parts
pub record IsMatched (pattern name : List ℕ) : Type 0 where
  pub parts : List (List ℕ)
  pub stand : StandForEach pattern parts
  pub whole : concat parts ≡ name

-- ---- the same, computed

-- what may be left of a name after the part that a character of the pattern stands for
abbrev pub after_any : List ℕ → List (List ℕ)
after_any [] = [] ∷ []
after_any (c ∷ cs) = (c ∷ cs) ∷ after_any cs

abbrev pub after_level : List ℕ → List (List ℕ)
after_level [] = [] ∷ []
after_level (c ∷ cs) = (c ∷ cs) ∷ (if c == 47 then [] else after_level cs)

abbrev pub after_same : ℕ → List ℕ → List (List ℕ)
after_same p [] = []
after_same p (c ∷ cs) = if c == p then cs ∷ [] else []

abbrev pub following : ℕ → List ℕ → List (List ℕ)
following p name = if p == 42 then after_any name else (if p == 37 then after_level name else after_same p name)

abbrev pub matches : (pattern name : List ℕ) → Bool
matches [] [] = true
matches [] (c ∷ cs) = false
matches (p ∷ ps) name = list_any (λ rest. matches ps rest) (following p name)
