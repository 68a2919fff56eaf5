-- The words in which a language says what its spellings are. A language of values of A is a family
-- `A → List ℕ → Type 0`: for each value the texts, as lists of bytes, that spell it.
use Rattle.std.specs.Prelude.{◌≡◌, ◌<◌, ◌≤◌, ℕ, List, [], ◌∷◌, ◌++◌, length, map, Option, None, Some, Bool, true, ◌&&◌, nat_le}
use Rattle.std.specs.List.{list_all}
use Rattle.std.specs.Char.{to_ascii_uppercase}

-- a text of the first, and then one of the second
pub record Then (P Q : List ℕ → Type 0) (text : List ℕ) : Type 0 where
  pub front : List ℕ
  pub back : List ℕ
  pub parts : text ≡ front ++ back
  pub first : P front
  pub second : Q back

-- the same, as an operator: `P ⨾ Q ⨾ R`
infixr 12 ◌⨾◌
abbrev pub ◌⨾◌ : (List ℕ → Type 0) → (List ℕ → Type 0) → List ℕ → Type 0
◌⨾◌ P Q = Then P Q

-- a text of the first, and then one of the second, which depends on the value of the first
pub record ThenBy {A B : Type 0} (L : A → List ℕ → Type 0) (M : A → B → List ℕ → Type 0) (b : B) (text : List ℕ) : Type 0 where
  pub value : A
  pub front : List ℕ
  pub back : List ℕ
  pub parts : text ≡ front ++ back
  pub first : L value front
  pub second : M value b back

-- one or more items with a separator between
abbrev pub ItemsText : {A : Type 0} → ℕ → (A → List ℕ → Type 0) → List A → List ℕ → Type 0
ItemsText sep L [] text = ⊥
ItemsText sep L (a ∷ []) text = L a text
ItemsText sep L (a ∷ b ∷ others) text = Then (L a) (Then (λ t. t ≡ sep ∷ []) (ItemsText sep L (b ∷ others))) text

-- nothing, or the byte c and a text of the value
abbrev pub OptText : {A : Type 0} → ℕ → (A → List ℕ → Type 0) → Option A → List ℕ → Type 0
OptText c L None text = text ≡ []
OptText c L (Some a) text = Then (λ t. t ≡ c ∷ []) (L a) text

-- these bytes
abbrev pub Is : List ℕ → List ℕ → Type 0
Is bytes text = text ≡ bytes

-- the end of a line
abbrev pub crlf : List ℕ
crlf = 13 ∷ 10 ∷ []

-- any number of bytes of a class, and the line end
abbrev pub LineText : (ℕ → Bool) → List ℕ → List ℕ → Type 0
LineText class a text = (text ≡ a ++ crlf) × (list_all class a ≡ true)

-- a letter as upper case, another byte as it is
abbrev pub upper : ℕ → ℕ
upper b = to_ascii_uppercase b

-- this word in any case; the word is given in upper case
abbrev pub Word : List ℕ → List ℕ → Type 0
Word word text = map upper text ≡ word

-- at least one and at most so many bytes of a class
pub record IsRun (class : ℕ → Bool) (limit : ℕ) (text : List ℕ) : Type 0 where
  pub each : list_all class text ≡ true
  pub some : 0 < length text
  pub most : length text ≤ limit

abbrev pub is_digit : ℕ → Bool
is_digit b = nat_le 48 b && nat_le b 57
