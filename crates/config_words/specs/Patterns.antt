-- Which names the words of Patterns choose.
use Rattle.std.specs.Prelude.{ℕ, ◌≡◌, ◌==◌, Bool, false, List, [], ◌∷◌, ◌++◌, All, codes, if◌then◌else◌}
use Rattle.mailcore.specs.MailboxPatterns.{IsMatched}

-- the pattern of a word, without the `!` (33) that may stand before it
abbrev pub pattern_of : (word : List ℕ) → List ℕ
pattern_of [] = []
pattern_of (c ∷ cs) = if c == 33 then cs else c ∷ cs

abbrev pub is_negated : (word : List ℕ) → Bool
is_negated [] = false
is_negated (c ∷ cs) = c == 33

-- a word speaks of the names that its pattern matches, and of INBOX only by that name itself
pub record SpeaksOf (name word : List ℕ) : Type 0 where
  pub matched : IsMatched (pattern_of word) name
  pub by_name : name ≡ codes "INBOX" → pattern_of word ≡ codes "INBOX"

-- of the words that speak of a name the last one decides, and it is not negated
pub record IsChosen (words : List (List ℕ)) (name : List ℕ) : Type 0 where
  pub before : List (List ℕ)
  pub word : List ℕ
  pub following : List (List ℕ)
  pub together : words ≡ before ++ word ∷ following
  pub speaks : SpeaksOf name word
  pub last : All (λ w. ¬ SpeaksOf name w) following
  pub affirms : is_negated word ≡ false
