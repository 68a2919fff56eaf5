-- Commands that name a mailbox (RFC 9051, sections 6.3.2, 6.3.4 and 6.3.12).
use Rattle.std.specs.Prelude.{◌≡◌, ◌≢◌, ◌==◌, ◌||◌, not, ℕ, Bool, true, List, ◌∷◌, ◌++◌, All, codes, nat_eq}
use Rattle.std.specs.List.{list_all}
use Rattle.std.specs.Cmp.Lexicographic.{pointwise}
use Rattle.wire_strings.specs.Quotes.{QuotedText}
use Rattle.link_face.specs.Names.{IsName}

abbrev pub is_naming : (word : List ℕ) → Bool
is_naming word = pointwise nat_eq word (codes "SELECT ") || pointwise nat_eq word (codes "CREATE ") || pointwise nat_eq word (codes "APPEND ")

-- no backslash
abbrev pub is_plain : (name : List ℕ) → Bool
is_plain name = list_all (λ b. not (b == 92)) name

-- The tag, the word with the space after it, what stands between the first two quotes, and the rest.
pub record IsInParts (command tag word name following : List ℕ) : Type 0 where
  pub together : command ≡ tag ++ 32 ∷ (word ++ 34 ∷ (name ++ 34 ∷ following))
  pub no_space : All (λ b. b ≢ 32) tag
  pub no_quote : All (λ b. b ≢ 34) word
  pub no_end : All (λ b. b ≢ 34) name

-- a command that names a mailbox in quotes, without a backslash
pub record NamesMailbox (command tag word name following : List ℕ) : Type 0 where
  pub parts : IsInParts command tag word name following
  pub naming : is_naming word ≡ true
  pub plain : is_plain name ≡ true

-- the command with the name in UTF-8
pub record IsRenamed (command turned : List ℕ) : Type 0 where
  pub tag : List ℕ
  pub word : List ℕ
  pub near : List ℕ
  pub following : List ℕ
  pub far : List ℕ
  pub quoted : List ℕ
  pub names : NamesMailbox command tag word near following
  pub name : IsName far near
  pub text : QuotedText far quoted
  pub is : turned ≡ tag ++ 32 ∷ (word ++ (quoted ++ following))

-- a mailbox that it names has the same name in UTF-8, or none
abbrev pub GoesAsItIs : (command : List ℕ) → Type 0
GoesAsItIs command = (tag word near following far : List ℕ) → NamesMailbox command tag word near following → IsName far near → far ≡ near
