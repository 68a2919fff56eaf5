-- How a reply begins (RFC 9051, section 7): its words, with a space between.
use Rattle.std.specs.Prelude.{◌≡◌, ◌≢◌, ◌==◌, ◌⊎◌, ◌&&◌, ℕ, Bool, true, false, not, List, [], ◌∷◌, ◌++◌, codes, length, map, nat_le, nat_eq, Option, Some, Vec, if◌then◌else◌}
use Rattle.std.specs.Global.{Global}
use Rattle.std.specs.Char.{is_ascii_digit, to_ascii_lowercase}
use Rattle.std.specs.List.{list_all}
use Rattle.std.specs.Str.{str_eq_ignore_ascii_case}
use Rattle.std.specs.Cmp.Lexicographic.{pointwise}
use Rattle.link_face.specs.declared.head.ReplyHead.{ReplyHead}
use Rattle.link_face.specs.declared.head.ReplyHead.TheVariants.{Continue, Status, Names, List as Listed, Flags, Numbered, Other, NoReply}
use Rattle.link_face.specs.declared.turning.Turn.{Turn}
use Rattle.link_face.specs.declared.turning.Turn.TheVariants.{Keep, Replace, Omit, Stop}

-- ---- words

-- a space or a control
abbrev pub is_gap : ℕ → Bool
is_gap b = nat_le b 32

-- the bytes before the first of these, and those from it on
abbrev pub first_word : List ℕ → List ℕ
first_word [] = []
first_word (b ∷ bs) = if is_gap b then [] else b ∷ first_word bs

abbrev pub after_word : List ℕ → List ℕ
after_word [] = []
after_word (b ∷ bs) = if is_gap b then b ∷ bs else after_word bs

-- without the space at the front, if one stands there
abbrev pub after_space : List ℕ → List ℕ
after_space [] = []
after_space (b ∷ bs) = if b == 32 then bs else b ∷ bs

abbrev pub following : List ℕ → List ℕ
following bytes = after_space (after_word bytes)

abbrev pub second_word : List ℕ → List ℕ
second_word bytes = first_word (following bytes)

abbrev pub third_word : List ℕ → List ℕ
third_word bytes = second_word (following bytes)

-- what stands after the third word
abbrev pub after_event : List ℕ → List ℕ
after_event bytes = after_word (following (following bytes))

-- digits, and at least one
abbrev pub is_number : List ℕ → Bool
is_number word = not (length word == 0) && list_all is_ascii_digit word

-- a plus begins it: the server waits for more of a command
abbrev pub asks : List ℕ → Bool
asks [] = false
asks (b ∷ bs) = b == 43

-- ---- a reply that is written anew begins as the raw one

-- the same word, in any case
abbrev pub SameWord : (one other : List ℕ) → Type 0
SameWord one other = map to_ascii_lowercase one ≡ map to_ascii_lowercase other

-- The same words: `*` or the tag; the number, or the word of a status, of names, of a list or of flags; and after a number the event.
pub record SameWords (raw bytes : List ℕ) : Type 0 where
  pub first : first_word bytes ≡ first_word raw
  pub second : SameWord (second_word bytes) (second_word raw)
  pub third : is_number (second_word raw) ≡ true → (second_word bytes ≡ second_word raw) × SameWord (third_word bytes) (third_word raw)

-- both ask for more, or have the same words
abbrev pub BeginsAs : (raw bytes : List ℕ) → Type 0
BeginsAs raw bytes = ((asks raw ≡ true) × (asks bytes ≡ true)) ⊎ SameWords raw bytes

abbrev pub KeepsWords : (raw : List ℕ) → Turn → Type 0
KeepsWords raw Keep = Unit {0}
KeepsWords raw (Replace bytes) = BeginsAs raw bytes.items
KeepsWords raw Omit = Unit {0}
KeepsWords raw Stop = Unit {0}

-- a tag begins it: neither a plus nor `*` alone nor a space nor a line end does
pub record IsTagged (raw : List ℕ) : Type 0 where
  pub no_plus : asks raw ≡ false
  pub no_star : first_word raw ≢ codes "*"
  pub some : first_word raw ≢ []

-- a tag and OK, in any case
abbrev pub ends_well : (raw : List ℕ) → Bool
ends_well raw = not (pointwise nat_eq (first_word raw) (codes "*")) && str_eq_ignore_ascii_case (second_word raw) (codes "OK")

-- ---- how it is found

-- these bytes, and then nothing or a space or a control
pub record BeginsWith (front bytes : List ℕ) : Type 0 where
  pub rest : List ℕ
  pub parts : bytes ≡ front ++ rest
  pub ends : first_word rest ≡ []

-- `*`, and a word that is no number
pub record IsUntagged (raw word : List ℕ) : Type 0 where
  pub star : first_word raw ≡ codes "*"
  pub second : SameWord word (second_word raw)
  pub no_number : is_number (second_word raw) ≡ false

pub record IsStatus (raw tag word : List ℕ) : Type 0 where
  pub first : tag ≡ first_word raw
  pub second : word ≡ second_word raw
  pub no_number : is_number (second_word raw) ≡ false

pub record IsNumbered (raw number event : List ℕ) : Type 0 where
  pub star : first_word raw ≡ codes "*"
  pub second : number ≡ second_word raw
  pub third : event ≡ third_word raw

-- what the first words of a reply say
abbrev pub HeadIs : (raw : List ℕ) → ReplyHead → Type 0
HeadIs raw Continue = asks raw ≡ true
HeadIs raw (Status s) = IsStatus raw s.tag.now s.word.now
HeadIs raw (Names word rest) = IsUntagged raw word.now
HeadIs raw (Listed rest) = IsUntagged raw (codes "LIST")
HeadIs raw (Flags rest) = IsUntagged raw (codes "FLAGS")
HeadIs raw (Numbered number event rest) = IsNumbered raw number.now event.now × (rest.now ≡ after_event raw)
HeadIs raw Other = ((first_word raw ≡ codes "*") × (is_number (second_word raw) ≡ false)) ⊎ (first_word raw ≡ [])
HeadIs raw NoReply = Unit {0}

-- this text in place of the reply, or nothing
abbrev pub GivesSome : (text : Option (Vec ℕ Global)) → Turn → Type 0
GivesSome text Keep = ⊥
GivesSome text (Replace given) = text ≡ Some given
GivesSome text Omit = Unit {0}
GivesSome text Stop = Unit {0}

-- bytes that begin so
abbrev pub HasFront : (front : List ℕ) → Turn → Type 0
HasFront front Keep = ⊥
HasFront front (Replace bytes) = BeginsWith front bytes.items
HasFront front Omit = Unit {0}
HasFront front Stop = Unit {0}

-- a reply with this number and this event, in any case
abbrev pub HasEvent : (number event : List ℕ) → Turn → Type 0
HasEvent number event turn = (word : List ℕ) × SameWord word event × HasFront (codes "* " ++ (number ++ 32 ∷ word)) turn
