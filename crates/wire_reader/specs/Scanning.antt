-- What a reader answers while it waits can change at some bytes alone, its places: a LF outside the octets of literals,
-- a NUL among them, and the 65537th byte outside them. They are found without the grammar.
use Rattle.std.specs.Prelude.{◌≡◌, ℕ, suc, Bool, ◌||◌, List, [], ◌∷◌, Option, None, Some, take, nat_le, nat_lt, ◌==◌, if◌then◌else◌}
use Rattle.wire_reader.specs.declared.lexical.Phase.{Phase}
use Rattle.wire_reader.specs.declared.lexical.Phase.TheVariants.{Plain, In}
use Rattle.wire_reader.specs.declared.scanner.Scanner.{Scanner}
use Rattle.wire_reader.specs.Lexical.{next, is_in}

-- before the first byte of a line
abbrev pub start : Scanner
start = record { phase = Plain; outside = 0 }

-- the bytes outside literals are counted up to the first that is too many
abbrev pub one_more : ℕ → ℕ
one_more n = if nat_le n 65536 then suc n else n

-- after a byte
abbrev pub after : Scanner → ℕ → Scanner
after s b = record { phase = next s.phase b; outside = if is_in s.phase then s.outside else one_more s.outside }

-- after these bytes
abbrev pub scanned : Scanner → List ℕ → Scanner
scanned s [] = s
scanned s (b ∷ bs) = scanned (after s b) bs

-- the byte is a place
abbrev pub is_place : Scanner → ℕ → Bool
is_place s b = if is_in s.phase then b == 0 else b == 10 || nat_le 65536 s.outside

-- the end of the bytes up to and with the first place, the first of them counted as the one at `at`
abbrev pub place_from : ℕ → Scanner → List ℕ → Option ℕ
place_from at s [] = None
place_from at s (b ∷ bs) = if is_place s b then Some (suc at) else place_from (suc at) (after s b) bs

-- how many of the bytes stand up to and with the first place
abbrev pub first_place : Scanner → List ℕ → Option ℕ
first_place s bytes = place_from 0 s bytes

-- the bytes up to and with the first place, or all
abbrev pub up_to : Option ℕ → List ℕ → List ℕ
up_to None bytes = bytes
up_to (Some n) bytes = take n bytes

-- the octets of the literal under way that are still to come
abbrev pub owed_in : Phase → ℕ
owed_in (In n) = n
owed_in _ = 0

-- more than 65536 bytes stand outside literals
abbrev pub is_over : Scanner → Bool
is_over s = nat_lt 65536 s.outside

-- after the text xs, none of the bytes ys is a place
abbrev pub NoPlace : List ℕ → List ℕ → Type 0
NoPlace xs ys = first_place (scanned start xs) ys ≡ None
