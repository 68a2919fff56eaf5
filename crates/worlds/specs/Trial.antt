-- The generator of trials counts its words.
use Rattle.std.specs.Prelude.{◌≡◌, ℕ, ◌+◌, ◌-◌, ◌*◌, ◌/◌, ◌%◌, ◌^◌, ◌==◌, ◌&&◌, Bool, true, List, nat_le, slice_index, if◌then◌else◌}
use Rattle.rand_core.specs.Steps.{steps_u64_low, stream_of}
use Rattle.rand_core.specs.Stream.{Stream}
use Rattle.mailcore.specs.Draws.{mark_at}

-- the word after the last one, and the state after it, which is that word
abbrev pub trial_step : ℕ → ℕ × ℕ
trial_step last = ((last + 1) % 2 ^ 64, (last + 1) % 2 ^ 64)

-- what the generator gives, from its first word on
abbrev pub trial_stream : Stream
trial_stream = stream_of (steps_u64_low trial_step) 0

-- ---- its marks

-- the number for which a character of base64url stands (RFC 4648, table 2)
abbrev pub number_of : ℕ → ℕ
number_of c =
    if nat_le 65 c && nat_le c 90 then c - 65 else if nat_le 97 c && nat_le c 122 then c - 71 else
    if nat_le 48 c && nat_le c 57 then c + 4 else if c == 45 then 62 else 63

-- A mark that it may give. The first of the nine bytes is in the first two characters, and the low six bits of the ninth in the last one: they
-- are those of the number after the first byte.
abbrev pub is_counted : (mark : List ℕ) → Bool
is_counted mark = number_of (slice_index mark 11) == (4 * number_of (slice_index mark 0) + number_of (slice_index mark 1) / 16 + 1) % 64

-- each mark that it gives is one
abbrev pub MarksAreCounted : Type 0
MarksAreCounted = (pair : ℕ) → is_counted (mark_at trial_stream pair) ≡ true
