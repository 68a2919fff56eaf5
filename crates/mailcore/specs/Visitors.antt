-- Who else adds messages to a mailbox while it is read and changed: other programs, and people.
use Rattle.std.specs.Prelude.{◌≡◌, ◌<◌, ℕ, Bool, true, false, not, List, All, Option, None, Some}

-- The marks that are those of a run, and whether nobody else adds any message. Others never write a mark of the run.
pub record Visitors : Type 0 where
  pub ours : List ℕ → Bool
  pub alone : Bool

-- no mark, or one that is none of the run's
abbrev pub IsForeign : (ours : List ℕ → Bool) → Option (List ℕ) → Type 0
IsForeign ours None = Unit {0}
IsForeign ours (Some mark) = ours mark ≡ false

-- the same as a test
abbrev pub is_foreign : (ours : List ℕ → Bool) → Option (List ℕ) → Bool
is_foreign ours None = true
is_foreign ours (Some mark) = not (ours mark)

-- what any message that they add consists of
abbrev pub AreOctets : (bytes : List ℕ) → Type 0
AreOctets bytes = All (λ b. b < 256) bytes

-- others, whose messages bear none of the marks that are the run's
abbrev pub others_but : (ours : List ℕ → Bool) → Visitors
others_but ours = record { ours = ours; alone = false }
