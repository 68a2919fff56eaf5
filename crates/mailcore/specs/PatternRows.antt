-- Which ends of a pattern match which ends of a name, as a table with one row for each end of the name.
use Rattle.std.specs.Prelude.{◌≡◌, ◌≤◌, ℕ, ◌+◌, Bool, false, not, ◌&&◌, ◌||◌, ◌==◌, List, length, drop, get_or, if◌then◌else◌}
use Rattle.mailcore.specs.MailboxPatterns.{matches}

-- the row of this end of a name: at each place of the pattern whether what stands from there on matches
pub record IsRow (pattern name : List ℕ) (row : List Bool) : Type 0 where
  pub long : length row ≡ length pattern + 1
  pub at : (k : ℕ) → k ≤ length pattern → get_or row k false ≡ matches (drop k pattern) name

-- At a character of the name, with one more character before the pattern: `here` and `after` say whether the pattern
-- without it matches here and one place on, and `next` whether the pattern with it matches one place on.
abbrev pub reaches : (p c : ℕ) → (here after next : Bool) → Bool
reaches p c here after next =
    if p == 42 then here || next else (if p == 37 then here || not (c == 47) && next else c == p && after)

-- and after the name
abbrev pub reaches_end : (p : ℕ) → (here : Bool) → Bool
reaches_end p here = (p == 42 || p == 37) && here
