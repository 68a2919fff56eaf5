-- Numbers (RFC 9051, section 9: number, nz-number): decimal, without a leading zero, up to the greatest of 32 bits.
use Rattle.std.specs.Prelude.{◌<◌, ◌≤◌, ℕ, ◌+◌, ◌*◌, ◌-◌, List, Option, None, Some, Result, Ok, Err, ◌==◌, nat_le, nat_lt, if◌then◌else◌}
use Rattle.wire_reader.specs.declared.stop.Kind.{Kind}
use Rattle.wire_reader.specs.declared.stop.Kind.TheVariants.{Syntax}
use Rattle.wire_reader.specs.declared.stop.Stop.{Stop}
use Rattle.wire_reader.specs.Spelling.{is_digit}
use Rattle.wire_reader.specs.Literal.{Number}
use Rattle.wire_reader.specs.Machine.{run}

-- ---- what a number is

abbrev pub greatest : ℕ
greatest = 4294967295

-- `number`: 0 to 4294967295
abbrev pub NumberText : ℕ → List ℕ → Type 0
NumberText n text = Number n text × (n ≤ greatest)

-- `nz-number`: 1 to 4294967295
abbrev pub NzText : ℕ → List ℕ → Type 0
NzText n text = Number n text × (0 < n) × (n ≤ greatest)

-- ---- how it is read

-- the number so far with a digit more, or none where it has a leading zero or is out of range
abbrev pub with_digit : ℕ → ℕ → Option ℕ → ℕ → Option ℕ
with_digit least most None digit = if nat_lt digit least then None else Some digit
with_digit least most (Some n) digit = if n == 0 then None else (if nat_le (10 * n + digit) most then Some (10 * n + digit) else None)

abbrev pub or_syntax : Option ℕ → Result (Option ℕ) Kind
or_syntax None = Err Syntax
or_syntax (Some n) = Ok (Some n)

abbrev pub number_go : ℕ → ℕ → Option ℕ → ℕ → Result (Option ℕ) Kind
number_go least most read b = or_syntax (with_digit least most read (b - 48))

abbrev pub read_so_far : Option ℕ → Option ℕ
read_so_far read = read

-- the rest of a number, after what was read of it
abbrev pub digits_from : ℕ → ℕ → Option ℕ → List ℕ → Result (ℕ × List ℕ) Stop
digits_from least most = run is_digit (number_go least most) read_so_far

-- a number from `least`, which is 0 or 1, to `most`
abbrev pub digits_at : ℕ → ℕ → List ℕ → Result (ℕ × List ℕ) Stop
digits_at least most = digits_from least most None

abbrev pub number_at : List ℕ → Result (ℕ × List ℕ) Stop
number_at = digits_at 0 greatest

abbrev pub nz_at : List ℕ → Result (ℕ × List ℕ) Stop
nz_at = digits_at 1 greatest
