-- The names of mailboxes that are synchronised.
use Rattle.std.specs.Prelude.{ℕ, ◌==◌, nat_eq, nat_lt, nat_le, Bool, not, ◌&&◌, ◌||◌, List, length, codes, Option, None, Some, if◌then◌else◌}
use Rattle.std.specs.List.{list_all, slice_split}
use Rattle.std.specs.Cmp.Lexicographic.{pointwise}

-- printable ASCII, and none of `*`, `%`, `"` and `\`
abbrev pub is_name_byte : ℕ → Bool
is_name_byte b = nat_le 32 b && nat_le b 126 && not (b == 42 || b == 37 || b == 34 || b == 92)

-- between slashes: not empty, and neither `.` nor `..`
abbrev pub is_name_part : List ℕ → Bool
is_name_part part = nat_lt 0 (length part) && not (pointwise nat_eq part (codes ".") || pointwise nat_eq part (codes ".."))

-- 1 to 255 bytes
abbrev pub is_mailbox_name : List ℕ → Bool
is_mailbox_name name = nat_le (length name) 255 && list_all is_name_byte name && list_all is_name_part (slice_split (λ b. b == 47) name)

-- a name within the limits; others are skipped
abbrev pub within_limits : List ℕ → Option (List ℕ)
within_limits name = if is_mailbox_name name then Some name else None
