-- Sets of flags. A set is a number with one bit for each flag, and a flag's place is the place of its bit.
use Rattle.std.specs.Prelude.{ℕ, zero, suc, ◌+◌, ◌*◌, ◌^◌, Bool, ◌&&◌, ◌||◌, ◌==◌, not, if◌then◌else◌}
use Rattle.std.specs.Int.{bit_at}

-- how many flags there are
abbrev pub FLAGS : ℕ
FLAGS = 32

-- the place of \Deleted
abbrev pub DELETED : ℕ
DELETED = 5

abbrev pub has : (flags place : ℕ) → Bool
has flags place = bit_at flags place == 1

-- the set in which each flag below a count is what a rule says of that flag in three sets
unfoldable pub each_flag : (ℕ → ℕ → ℕ → ℕ) → (count a b c : ℕ) → ℕ
each_flag rule zero a b c = 0
each_flag rule (suc k) a b c = each_flag rule k a b c + 2 ^ k * rule (bit_at a k) (bit_at b k) (bit_at c k)

-- in the first set or in the second
abbrev pub union_flag : ℕ → ℕ → ℕ → ℕ
union_flag x y _ = if x == 1 || y == 1 then 1 else 0

unfoldable pub union : ℕ → ℕ → ℕ
union a b = each_flag union_flag FLAGS a b 0

-- in the first set and not in the second
abbrev pub minus_flag : ℕ → ℕ → ℕ → ℕ
minus_flag x y _ = if x == 1 && not (y == 1) then 1 else 0

unfoldable pub minus : ℕ → ℕ → ℕ
minus a b = each_flag minus_flag FLAGS a b 0

-- in both sets
abbrev pub common_flag : ℕ → ℕ → ℕ → ℕ
common_flag x y _ = if x == 1 && y == 1 then 1 else 0

unfoldable pub common : ℕ → ℕ → ℕ
common a b = each_flag common_flag FLAGS a b 0
