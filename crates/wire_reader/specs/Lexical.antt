-- What can be said of the bytes of a line without its grammar: which of them are octets of literals, where a literal's
-- length ends, and where it passes its limit. A literal is `{n}` or `{n+}`, a line end, and then n octets.
use Rattle.std.specs.Prelude.{ℕ, zero, suc, ◌+◌, ◌-◌, ◌*◌, Bool, true, false, ◌&&◌, not, List, [], ◌∷◌, Option, Some, None, nat_le, nat_lt, ◌==◌, if◌then◌else◌}
use Rattle.wire_reader.specs.declared.lexical.Phase.{Phase}
use Rattle.wire_reader.specs.declared.lexical.Phase.TheVariants.{Plain, Brace, Digits, Plus, Close, Return, In}
use Rattle.wire_reader.specs.declared.stop.Kind.{Kind}
use Rattle.wire_reader.specs.declared.stop.Kind.TheVariants.{Syntax, TooLong}
use Rattle.wire_reader.specs.declared.side.Speaker.{Speaker}
use Rattle.wire_reader.specs.declared.side.Speaker.TheVariants.{Commands, Replies}
use Rattle.wire_reader.specs.Spelling.{is_digit}

-- the greatest length of a literal, and of one after which its sender does not wait
abbrev pub literal_limit : ℕ
literal_limit = 16777238

abbrev pub plus_limit : ℕ
plus_limit = 4096

abbrev pub restart : ℕ → Phase
restart b = if b == 123 then Brace else Plain

-- where the next byte stands
abbrev pub next : Phase → ℕ → Phase
next Plain b = restart b
next Brace b = if is_digit b then Digits (b - 48) else restart b
next (Digits n) b = if b == 125 then Close n false else (if b == 43 then Plus n else (if is_digit b && nat_le n literal_limit then Digits (10 * n + (b - 48)) else restart b))
next (Plus n) b = if b == 125 then Close n true else restart b
next (Close n plus) b = if b == 13 then Return n plus else restart b
next (Return n plus) b = if b == 10 && not (n == 0) then In n else restart b
next (In n) b = if nat_le n 1 then Plain else In (n - 1)

abbrev pub phase : Phase → List ℕ → Phase
phase p [] = p
phase p (b ∷ bs) = phase (next p b) bs

-- ---- bytes outside literals

abbrev pub is_in : Phase → Bool
is_in (In n) = true
is_in _ = false

abbrev pub outside_from : Phase → List ℕ → ℕ
outside_from p [] = 0
outside_from p (b ∷ bs) = (if is_in p then 0 else 1) + outside_from (next p b) bs

-- how many of the bytes stand outside literals
abbrev pub outside : List ℕ → ℕ
outside xs = outside_from Plain xs

-- the end of the bytes up to the first one for which there is no room
abbrev pub limit_from : Phase → ℕ → ℕ → List ℕ → Option ℕ
limit_from p room at [] = None
limit_from p room at (b ∷ bs) =
    if is_in p then limit_from (next p b) room (at + 1) bs
    else (if room == 0 then Some (at + 1) else limit_from (next p b) (room - 1) (at + 1) bs)

-- ---- where a literal's sender waits

-- the length, where this byte ends the line after `{n}`; a sender of replies never waits
abbrev pub asked_by : Speaker → ℕ → ℕ → Option ℕ
asked_by Commands n b = if b == 10 then Some n else None
asked_by Replies n b = None

abbrev pub asked : Speaker → Phase → ℕ → Option ℕ
asked side (Return n false) b = asked_by side n b
asked side _ b = None

abbrev pub asks_from : Speaker → Phase → List ℕ → Option ℕ
asks_from side p [] = None
asks_from side p (b ∷ []) = asked side p b
asks_from side p (b ∷ c ∷ bs) = asks_from side (next p b) (c ∷ bs)

-- the number of octets that the sender keeps back until it is asked to go on: the bytes end right after `{n}` and a line end
abbrev pub asks : Speaker → List ℕ → Option ℕ
asks side xs = asks_from side Plain xs

-- ---- where a literal's length passes its limit

-- the byte puts the number n that stands before it over the limit
abbrev pub over_by : Speaker → ℕ → ℕ → Bool
over_by Commands n b = if b == 43 then nat_lt plus_limit n else is_digit b && nat_lt literal_limit (10 * n + (b - 48))
over_by Replies n b = is_digit b && nat_lt literal_limit (10 * n + (b - 48))

abbrev pub is_over : Speaker → Phase → ℕ → Bool
is_over side (Digits n) b = over_by side n b
is_over side _ b = false

-- what a fault at this byte is
abbrev pub kind_of : Speaker → Phase → ℕ → Kind
kind_of side p b = if is_over side p b then TooLong else Syntax

-- the byte at this place puts a literal's number over its limit
abbrev pub over_from : Speaker → Phase → ℕ → List ℕ → Bool
over_from side p at [] = false
over_from side p zero (b ∷ bs) = is_over side p b
over_from side p (suc at) (b ∷ bs) = over_from side (next p b) at bs

abbrev pub passes_limit : Speaker → ℕ → List ℕ → Bool
passes_limit side at xs = over_from side Plain at xs
