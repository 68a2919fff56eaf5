-- The mark of a copy: twelve characters of base64url (RFC 4648, section 5), which stand for nine bytes.
use Rattle.std.specs.Prelude.{ℕ, Bool, ◌&&◌, ◌||◌, ◌==◌, List, length, nat_le, IsTrue, codes}
use Rattle.std.specs.List.{list_all}
use Rattle.base64.specs.Rfc4648.{encode_symbols}

-- the number of characters of a mark
abbrev pub MARK_LENGTH : ℕ
MARK_LENGTH = 12

-- one of A-Z, a-z, 0-9, `-` and `_`
abbrev pub is_mark_char : ℕ → Bool
is_mark_char b =
    nat_le 65 b && nat_le b 90 || nat_le 97 b && nat_le b 122 || nat_le 48 b && nat_le b 57
    || b == 45 || b == 95

-- these characters are a mark
abbrev pub is_mark : List ℕ → Bool
is_mark characters = length characters == MARK_LENGTH && list_all is_mark_char characters

-- the same as a fact
abbrev pub IsMark : List ℕ → Type 0
IsMark characters = IsTrue (is_mark characters)

-- the 64 characters of base64url, each at the place of its value (RFC 4648, table 2)
abbrev pub SYMBOLS : List ℕ
SYMBOLS = codes "ABCDEFGHIJKLMNOPQRSTUVWXYZabcdefghijklmnopqrstuvwxyz0123456789-_"

-- the characters that stand for these bytes, without padding
abbrev pub base64url : List ℕ → List ℕ
base64url bytes = encode_symbols SYMBOLS bytes
