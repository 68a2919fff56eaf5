-- Rows: FETCH replies, by their items (RFC 9051, sections 7.5.2 and 9: message-data, msg-att), as servers may write them.
use Rattle.std.specs.Prelude.{◌≡◌, ◌⊎◌, ◌==◌, ◌&&◌, ◌||◌, not, ℕ, suc, Bool, true, false, List, [], ◌∷◌, ◌++◌, codes, length, nat_le, min, Option, None, Some, is_some, if◌then◌else◌}
use Rattle.std.specs.Borrow.{Bor}
use Rattle.std.specs.List.{list_all}
use Rattle.std.specs.Option.{option_or}
use Rattle.std.specs.Str.{str_eq_ignore_ascii_case}
use Rattle.wire_reader.specs.Spelling.{◌⨾◌, Is}
use Rattle.wire_reader.specs.Literal as literals
use Rattle.wire_reader.specs.declared.side.Speaker.TheVariants.{Replies}
use Rattle.wire_strings.specs.Literals.{IsLiteral}
use Rattle.wire_strings.specs.Quotes.{unescaped}
use Rattle.wire_tokens.specs.Numbers.{greatest, NumberText}
use Rattle.link_face.specs.declared.row.FetchRow.{FetchRow}
use Rattle.link_face.specs.declared.row.ItemName.{ItemName}
use Rattle.link_face.specs.declared.row.ItemName.TheVariants.{Uid, Flags, Size, Body, Head, OtherName}
use Rattle.link_face.specs.declared.token.Token.{Token}
use Rattle.link_face.specs.declared.token.Token.TheVariants.{Open, Close, Space, Word, Quoted, Literal}
use Rattle.link_face.specs.declared.turning.Turn.{Turn}
use Rattle.link_face.specs.declared.turning.Turn.TheVariants.{Keep, Replace, Omit, Stop}
use Rattle.link_face.specs.FlagWords.{listed_flags}
use Rattle.link_face.specs.Heads.{SameWord, first_word, second_word, third_word, is_number}

-- ---- tokens

-- a space, a control, a bracket, a quote or `{`
abbrev pub ends_word : ℕ → Bool
ends_word b = nat_le b 32 || (b == 40 || (b == 41 || (b == 34 || b == 123)))

-- a quote stands only after a backslash that quotes it (`slash`: one stands before these bytes)
abbrev pub is_between_quotes : (slash : Bool) → List ℕ → Bool
is_between_quotes slash [] = not slash
is_between_quotes true (b ∷ bs) = is_between_quotes false bs
is_between_quotes false (b ∷ bs) = not (b == 34) && is_between_quotes (b == 92) bs

-- the number that digits spell, or the greatest of 32 bits, where it is greater
abbrev pub number_in : (digits : List ℕ) → ℕ
number_in digits = min greatest (literals.value 0 digits)

-- after `{`: a number, `}` or `+}`, a line end, and so many octets
pub record LiteralRest (octets text : List ℕ) : Type 0 where
  pub digits : List ℕ
  pub close : List ℕ
  pub parts : text ≡ digits ++ (close ++ (codes "}\r\n" ++ octets))
  pub number : is_number digits ≡ true
  pub plus : (close ≡ []) ⊎ (close ≡ codes "+")
  pub long : length octets ≡ number_in digits

abbrev pub TokenText : Token → List ℕ → Type 0
TokenText Open text = text ≡ codes "("
TokenText Close text = text ≡ codes ")"
TokenText Space text = text ≡ codes " "
TokenText (Word word) text = (text ≡ word.now) × (list_all (λ b. not (ends_word b)) word.now ≡ true)
TokenText (Quoted raw) text = (text ≡ 34 ∷ (raw.now ++ 34 ∷ [])) × (is_between_quotes false raw.now ≡ true)
TokenText (Literal octets) text = (Is (codes "{") ⨾ LiteralRest octets.now) text ⊎ (Is (codes "~{") ⨾ LiteralRest octets.now) text

-- this token stands at the front
pub record BeginsToken (bytes : List ℕ) (token : Token) (rest : List ℕ) : Type 0 where
  pub text : List ℕ
  pub parts : bytes ≡ text ++ rest
  pub is : TokenText token text

-- ---- values

-- a word or a string
abbrev pub is_part : Token → Bool
is_part Open = false
is_part Close = false
is_part Space = false
is_part (Word word) = true
is_part (Quoted raw) = true
is_part (Literal octets) = true

-- Words and strings, of whose brackets so many are open. A space stands within brackets alone.
pub data Opens : (depth : ℕ) → List ℕ → Type 0 where
  nothing : Opens 0 []
  part : (depth : ℕ) (front text : List ℕ) (token : Token) → Opens depth front → is_part token ≡ true → TokenText token text → Opens depth (front ++ text)
  space : (depth : ℕ) (front : List ℕ) → Opens (suc depth) front → Opens (suc depth) (front ++ codes " ")
  opened : (depth : ℕ) (front : List ℕ) → Opens depth front → Opens (suc depth) (front ++ codes "(")
  closed : (depth : ℕ) (front : List ℕ) → Opens (suc depth) front → Opens depth (front ++ codes ")")

-- no bracket is open
abbrev pub IsValue : List ℕ → Type 0
IsValue text = Opens 0 text

-- a space or a bracket follows a value
abbrev pub ends_value : List ℕ → Bool
ends_value [] = false
ends_value (b ∷ bs) = b == 32 || b == 41

-- a value at the front
pub record BeginsValue (bytes value rest : List ℕ) : Type 0 where
  pub parts : bytes ≡ value ++ rest
  pub is : IsValue value
  pub ends : ends_value rest ≡ true

-- ---- items

pub record Item : Type 0 where
  pub name : List ℕ
  pub value : List ℕ

-- no space stands there but in a section, which is in square brackets (`section`: one is open before these bytes)
abbrev pub is_name : (section : Bool) → List ℕ → Bool
is_name section [] = not section
is_name true (b ∷ bs) = is_name (not (b == 93)) bs
is_name false (b ∷ bs) = not (b == 32) && is_name (b == 91) bs

pub record ItemText (item : Item) (text : List ℕ) : Type 0 where
  pub parts : text ≡ item.name ++ 32 ∷ item.value
  pub name : is_name false item.name ≡ true
  pub value : IsValue item.value

-- Items with a space between, of which the last is the first of the list. A space may stand before the first one.
abbrev pub ItemsText : List Item → List ℕ → Type 0
ItemsText [] text = text ≡ []
ItemsText (item ∷ []) text = ItemText item text ⊎ (Is (codes " ") ⨾ ItemText item) text
ItemsText (item ∷ other ∷ before) text = (ItemsText (other ∷ before) ⨾ Is (codes " ") ⨾ ItemText item) text

-- what follows FETCH: these items in brackets, and whatever the line ends with
pub record RowText (items : List Item) (bytes : List ℕ) : Type 0 where
  pub text : List ℕ
  pub following : List ℕ
  pub parts : bytes ≡ codes " (" ++ (text ++ 41 ∷ following)
  pub items_text : ItemsText items text

-- ---- what they say

-- the same word in any case
abbrev pub name_of : List ℕ → ItemName
name_of name =
    if str_eq_ignore_ascii_case name (codes "UID") then Uid
    else (if str_eq_ignore_ascii_case name (codes "FLAGS") then Flags
    else (if str_eq_ignore_ascii_case name (codes "RFC822.SIZE") then Size
    else (if str_eq_ignore_ascii_case name (codes "BODY[]") then Body
    else (if str_eq_ignore_ascii_case name (codes "BODY[]<0>") then Head
    else OtherName))))

abbrev pub same_name : ItemName → ItemName → Bool
same_name Uid Uid = true
same_name Flags Flags = true
same_name Size Size = true
same_name Body Body = true
same_name Head Head = true
same_name _ _ = false

-- the value of the first item of this name
abbrev pub value_of : ItemName → List Item → Option (List ℕ)
value_of name [] = None
value_of name (item ∷ before) = option_or (value_of name before) (if same_name name (name_of item.name) then Some item.value else None)

abbrev pub has : ItemName → List Item → Bool
has name items = is_some (value_of name items)

-- octets of the message, or its flags and its size
abbrev pub has_values : List Item → Bool
has_values items = has Body items || has Head items || has Flags items && has Size items

-- all that one of the commands of a client asks for
abbrev pub has_all_items : List Item → Bool
has_all_items items = has Uid items && has_values items

-- all that a listing asks for
abbrev pub has_listing : List Item → Bool
has_listing items = has Uid items && (has Flags items && has Size items)

-- they name this message
pub record HasUid (items : List Item) (uid : ℕ) : Type 0 where
  pub digits : List ℕ
  pub named : value_of Uid items ≡ Some digits
  pub number : is_number digits ≡ true
  pub is : uid ≡ number_in digits

-- ---- what is written for a client

-- the words in brackets that are flags, in their order
pub record FlagsWritten (list written : List ℕ) : Type 0 where
  pub words : List ℕ
  pub parts : list ≡ 40 ∷ (words ++ 41 ∷ [])
  pub is : written ≡ listed_flags false words

-- the number, or the greatest of 32 bits, where it is greater
pub record SizeWritten (digits written : List ℕ) : Type 0 where
  pub number : is_number digits ≡ true
  pub is : NumberText (number_in digits) written

abbrev pub ListingWritten : (flags size written : List ℕ) → Type 0
ListingWritten flags size = Is (codes "FLAGS ") ⨾ FlagsWritten flags ⨾ Is (codes " RFC822.SIZE ") ⨾ SizeWritten size

-- octets as a literal, or NIL where one of them is 0 or they are too many
abbrev pub LiteralWritten : (octets written : List ℕ) → Type 0
LiteralWritten octets written = (IsLiteral octets × literals.Literal Replies octets written) ⊎ ((¬ IsLiteral octets) × (written ≡ codes "NIL"))

-- a string by the octets for which it stands; NIL where the token is none
abbrev pub TokenWritten : Token → (written : List ℕ) → Type 0
TokenWritten Open written = written ≡ codes "NIL"
TokenWritten Close written = written ≡ codes "NIL"
TokenWritten Space written = written ≡ codes "NIL"
TokenWritten (Word word) written = written ≡ codes "NIL"
TokenWritten (Quoted raw) written = LiteralWritten (unescaped raw.now) written
TokenWritten (Literal octets) written = LiteralWritten octets.now written

-- the token at the front
pub record OctetsWritten (value written : List ℕ) : Type 0 where
  pub token : Token
  pub following : List ℕ
  pub begins : BeginsToken value token following
  pub is : TokenWritten token written

-- the octets of the whole message, or those at its front, or its flags and its size
abbrev pub ValuesWritten : (body head flags size : Option (List ℕ)) → (written : List ℕ) → Type 0
ValuesWritten (Some body) head flags size written = (Is (codes "BODY[] ") ⨾ OctetsWritten body) written
ValuesWritten None (Some head) flags size written = (Is (codes "BODY[]<0> ") ⨾ OctetsWritten head) written
ValuesWritten None None (Some flags) (Some size) written = ListingWritten flags size written
ValuesWritten None None None size written = ⊥
ValuesWritten None None (Some flags) None written = ⊥

abbrev pub ItemsWritten : List Item → (written : List ℕ) → Type 0
ItemsWritten items written = ValuesWritten (value_of Body items) (value_of Head items) (value_of Flags items) (value_of Size items) written

-- the UID, in these digits
pub record IsUidOf (items : List Item) (digits : List ℕ) : Type 0 where
  pub named : value_of Uid items ≡ Some digits
  pub number : is_number digits ≡ true

-- the row that is written for a client of such items
pub record IsRowWritten (number : List ℕ) (items : List Item) (bytes : List ℕ) : Type 0 where
  pub uid : List ℕ
  pub is_uid : IsUidOf items uid
  pub written : List ℕ
  pub parts : bytes ≡ codes "* " ++ (number ++ (codes " FETCH (UID " ++ (uid ++ 32 ∷ (written ++ codes ")\r\n"))))
  pub values : ItemsWritten items written

-- ---- rows

-- `*`, a number and FETCH begin it
pub record IsFetch (raw : List ℕ) : Type 0 where
  pub star : first_word raw ≡ codes "*"
  pub number : is_number (second_word raw) ≡ true
  pub event : SameWord (third_word raw) (codes "FETCH")

-- these bytes after FETCH have items, of which this row is written
pub record SaysRow (bytes number row : List ℕ) : Type 0 where
  pub items : List Item
  pub raw : RowText items bytes
  pub written : IsRowWritten number items row

-- they have items, but not all that a command asks for
pub record LacksItems (bytes : List ℕ) : Type 0 where
  pub items : List Item
  pub raw : RowText items bytes
  pub lacks : has_all_items items ≡ false

-- such a row, or nothing, and the connection is given up
abbrev pub GivesRow : (number : List ℕ) (items : List Item) → Turn → Type 0
GivesRow number items Keep = ⊥
GivesRow number items (Replace row) = IsRowWritten number items row.items
GivesRow number items Omit = ⊥
GivesRow number items Stop = Unit {0}

-- A row that is written anew says what the raw one said, and no other row is left out than one that lacks items.
abbrev pub KeepsRow : (bytes number : List ℕ) → Turn → Type 0
KeepsRow bytes number Keep = Unit {0}
KeepsRow bytes number (Replace row) = SaysRow bytes number row.items
KeepsRow bytes number Omit = LacksItems bytes
KeepsRow bytes number Stop = Unit {0}

-- ---- how they are read

abbrev pub after_plus : List ℕ → List ℕ
after_plus [] = []
after_plus (b ∷ bs) = if b == 43 then bs else b ∷ bs

-- this was kept of the items of this name: the value of the first one, or nothing
abbrev pub Holds : ItemName → List Item → Option (Bor (List ℕ)) → Type 0
Holds name items None = value_of name items ≡ None
Holds name items (Some value) = value_of name items ≡ Some value.now

pub record IsRowOf (items : List Item) (row : FetchRow) : Type 0 where
  pub uid : Holds Uid items row.uid
  pub flags : Holds Flags items row.flags
  pub size : Holds Size items row.size
  pub body : Holds Body items row.body
  pub head : Holds Head items row.head

-- the row has the items of these bytes
pub record ReadsRow (bytes : List ℕ) (row : FetchRow) : Type 0 where
  pub items : List Item
  pub text : RowText items bytes
  pub is : IsRowOf items row
