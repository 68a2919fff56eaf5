-- Literals: `{n}` or, in commands, `{n+}`, a line end, and then n octets, none of them 0.
use Rattle.std.specs.Prelude.{◌≡◌, ◌≤◌, ℕ, zero, suc, ◌+◌, ◌*◌, ◌-◌, Bool, true, false, not, List, [], ◌∷◌, ◌++◌, length, Option, None, Some, Result, Ok, Err, ◌==◌, nat_le, if◌then◌else◌}
use Rattle.std.specs.List.{list_all}
use Rattle.wire_reader.specs.declared.side.Speaker.{Speaker}
use Rattle.wire_reader.specs.declared.side.Speaker.TheVariants.{Commands, Replies}
use Rattle.wire_reader.specs.declared.literal.LengthStep.{LengthStep}
use Rattle.wire_reader.specs.declared.literal.LengthStep.TheVariants as lengths
use Rattle.wire_reader.specs.declared.stop.Kind.TheVariants.{Syntax, TooLong}
use Rattle.wire_reader.specs.declared.stop.Stop.{Stop}
use Rattle.wire_reader.specs.declared.stop.Stop.TheVariants.{Ends}
use Rattle.wire_reader.specs.Spelling.{◌⨾◌, ThenBy, Is, is_digit}
use Rattle.wire_reader.specs.Reading.{◌>>=◌, stuck, seq, skip, byte_at}
use Rattle.wire_reader.specs.Machine.{Step, On, Take, Odd, scan}
use Rattle.wire_reader.specs.Lexical.{literal_limit, plus_limit}

-- ---- what a literal is

-- the number that digits spell, after digits that spell v
abbrev pub value : ℕ → List ℕ → ℕ
value v [] = v
value v (d ∷ ds) = value (10 * v + (d - 48)) ds

-- no digit follows a leading 0
abbrev pub Plainly : List ℕ → Type 0
Plainly [] = ⊥
Plainly (d ∷ ds) = d ≡ 48 → ds ≡ []

pub record Number (n : ℕ) (text : List ℕ) : Type 0 where
  pub each : list_all is_digit text ≡ true
  pub plain : Plainly text
  pub is : value 0 text ≡ n

-- `}`, or `+}` where the sender does not wait
abbrev pub close_text : Bool → List ℕ
close_text true = 43 ∷ 125 ∷ []
close_text false = 125 ∷ []

-- only in commands a sender may not wait
abbrev pub MayPlus : Speaker → Bool → Type 0
MayPlus Commands plus = Unit {0}
MayPlus Replies true = ⊥
MayPlus Replies false = Unit {0}

-- the length of a literal after `{`, and whether `+` stands there
pub record LengthText (side : Speaker) (p : ℕ × Bool) (text : List ℕ) : Type 0 where
  pub digits : List ℕ
  pub parts : text ≡ digits ++ close_text p.1
  pub number : Number p.0 digits
  pub plus : MayPlus side p.1
  pub most : p.0 ≤ (if p.1 then plus_limit else literal_limit)

abbrev pub is_octet : ℕ → Bool
is_octet b = not (b == 0)

-- n octets, none of them 0
pub record IsOctets (n : ℕ) (text : List ℕ) : Type 0 where
  pub each : list_all is_octet text ≡ true
  pub long : length text ≡ n

abbrev pub Octets : ℕ → List ℕ → List ℕ → Type 0
Octets n octets text = (text ≡ octets) × IsOctets n text

abbrev pub Literal : Speaker → List ℕ → List ℕ → Type 0
Literal side octets = Is (123 ∷ []) ⨾ ThenBy (LengthText side) (λ p o. Is (13 ∷ []) ⨾ Is (10 ∷ []) ⨾ Octets p.0 o) octets

-- ---- how it is read

-- the number so far and a digit more
abbrev pub more_digits : ℕ → Step (Option (ℕ × Bool)) (ℕ × Bool)
more_digits n = if nat_le n literal_limit then On (Some (n, false)) else Odd TooLong

abbrev pub plus_step : Speaker → ℕ → Step (Option (ℕ × Bool)) (ℕ × Bool)
plus_step Commands n = if nat_le n plus_limit then On (Some (n, true)) else Odd TooLong
plus_step Replies n = Odd Syntax

-- what was read of the length: nothing, or a number, and whether `+` follows it
abbrev pub length_step : Speaker → Option (ℕ × Bool) → ℕ → Step (Option (ℕ × Bool)) (ℕ × Bool)
length_step side None b = if is_digit b then On (Some (b - 48, false)) else Odd Syntax
length_step side (Some (n, true)) b = if b == 125 then Take (n, true) else Odd Syntax
length_step side (Some (n, false)) b =
    if b == 125 then Take (n, false)
    else (if b == 43 then plus_step side n
    else (if is_digit b then (if n == 0 then Odd Syntax else more_digits (10 * n + (b - 48))) else Odd Syntax))

-- the same steps, as the program has them; the number keeps to the limit
abbrev pub step_of : LengthStep → Step (Option (ℕ × Bool)) (ℕ × Bool)
step_of (lengths.On p) = On (Some p)
step_of (lengths.Take p) = Take p
step_of (lengths.Odd k) = Odd k

abbrev pub Fits : LengthStep → Type 0
Fits (lengths.On p) = p.0 ≤ literal_limit
Fits (lengths.Take p) = p.0 ≤ literal_limit
Fits (lengths.Odd k) = Unit {0}

abbrev pub length_at : Speaker → List ℕ → Result ((ℕ × Bool) × List ℕ) Stop
length_at side = scan (length_step side) None

abbrev pub with_byte : ℕ → Result (List ℕ × List ℕ) Stop → Result (List ℕ × List ℕ) Stop
with_byte b o = o >>= λ x. Ok (b ∷ x.0, x.1)

-- n octets that are not 0
abbrev pub octets_at : ℕ → List ℕ → Result (List ℕ × List ℕ) Stop
octets_at zero xs = Ok ([], xs)
octets_at (suc n) [] = Err (Ends None)
octets_at (suc n) (b ∷ bs) = if b == 0 then stuck (b ∷ bs) else with_byte b (octets_at n bs)

-- a value after which at least one byte has come
abbrev pub followed : List ℕ → List ℕ → Result (List ℕ × List ℕ) Stop
followed a [] = Err (Ends None)
followed a (c ∷ cs) = Ok (a, c ∷ cs)

-- the octets of a literal, once a byte has come after them
abbrev pub wait_at : Option ℕ → ℕ → List ℕ → Result (List ℕ × List ℕ) Stop
wait_at w n [] = Err (Ends w)
wait_at w n (b ∷ bs) = octets_at n (b ∷ bs) >>= λ x. followed x.0 x.1

-- for how many octets a sender waits
abbrev pub waits_for : Speaker → ℕ × Bool → Option ℕ
waits_for Commands p = if p.1 then None else Some p.0
waits_for Replies p = None

abbrev pub octets_of : Speaker → ℕ × Bool → List ℕ → Result (List ℕ × List ℕ) Stop
octets_of side p = skip (byte_at 13) (skip (byte_at 10) (wait_at (waits_for side p) p.0))

abbrev pub literal_at : Speaker → List ℕ → Result (List ℕ × List ℕ) Stop
literal_at side = skip (byte_at 123) (seq (length_at side) (octets_of side))
