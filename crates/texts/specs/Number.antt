-- Numbers and their decimal texts.
use Rattle.std.specs.Prelude.{ℕ, Bool, ◌&&◌, ◌||◌, ◌==◌, nat_eq, nat_le, nat_lt, List, length, slice_index, decimal, Option, Some, None, if◌then◌else◌}
use Rattle.std.specs.Str.Parse.{digits_value}
use Rattle.std.specs.Cmp.Lexicographic.{pointwise}

-- the number up to a limit with this decimal text
abbrev pub number_of : (limit : ℕ) → List ℕ → Option ℕ
number_of limit digits =
    if nat_le (digits_value 10 digits) limit && pointwise nat_eq (decimal (digits_value 10 digits)) digits
    then Some (digits_value 10 digits) else None

-- What `fast_float` reads as a number, as std does, and this crate does not: a plus stands first, or a zero before something else.
abbrev pub has_sign_or_leading_zero : List ℕ → Bool
has_sign_or_leading_zero bytes =
    slice_index bytes 0 == 43 || slice_index bytes 0 == 48 && nat_lt 1 (length bytes)
