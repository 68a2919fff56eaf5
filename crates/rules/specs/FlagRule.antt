-- How the flags of a pair propagate: what becomes of each flag, by its value on both sides and the recorded one.
use Rattle.std.specs.Prelude.{ℕ, ◌^◌, Bool, not, ◌&&◌, ◌==◌, if◌then◌else◌}
use Rattle.mailcore.specs.FlagSet.{FLAGS, DELETED, each_flag, union}

-- the target's flag after: the source's, if that differs from the recorded one and the target's does not
abbrev pub taken_flag : (source target recorded : ℕ) → ℕ
taken_flag s t r = if not (s == r) && t == r then s else t

unfoldable pub taken : (source target recorded : ℕ) → ℕ
taken s t r = each_flag taken_flag FLAGS s t r

-- the recorded flag after: the far one if pulling and it has changed, else the near one if pushing and it has changed
abbrev pub recorded_flag : (pull push : Bool) → (far near recorded : ℕ) → ℕ
recorded_flag pull push s n r = if pull && not (s == r) then s else if push && not (n == r) then n else r

unfoldable pub recorded_after : (pull push : Bool) → (far near recorded : ℕ) → ℕ
recorded_after pull push s n r = each_flag (recorded_flag pull push) FLAGS s n r

unfoldable pub with_deleted : ℕ → ℕ
with_deleted flags = union flags (2 ^ DELETED)
