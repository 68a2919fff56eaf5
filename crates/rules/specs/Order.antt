-- The order of a plan.
use Rattle.std.specs.Prelude.{ℕ, ◌<◌, ◌≡◌, ◌⊎◌}
use Rattle.mailcore.specs.declared.side.Side.TheVariants.{Far, Near}
use Rattle.mailcore.specs.declared.side.Direction.TheVariants.{Pull, Push}
use Rattle.rules.specs.Propagation.{Propagation, New, Gone, Flags, Expunge, Record, Drop}

-- the kinds in turn, and within a kind the UIDs that it rises by: new and expunge by the message's, gone by the target's, flags by the far one, records and drops by the far and then the near one
abbrev pub place : Propagation → ℕ × ℕ × ℕ
place (New Pull u) = (0, u, 0)
place (New Push u) = (1, u, 0)
place (Gone Pull f n) = (2, n, 0)
place (Gone Push f n) = (3, f, 0)
place (Flags Pull f n set cleared) = (4, f, 0)
place (Flags Push f n set cleared) = (5, f, 0)
place (Expunge Far u) = (6, u, 0)
place (Expunge Near u) = (7, u, 0)
place (Record f n w) = (8, f, n)
place (Drop f n) = (9, f, n)

abbrev pub IsBelow : ℕ × ℕ × ℕ → ℕ × ℕ × ℕ → Type 0
IsBelow a b = (a.0 < b.0) ⊎ ((a.0 ≡ b.0) × ((a.1 < b.1) ⊎ ((a.1 ≡ b.1) × (a.2 < b.2))))

abbrev pub Before : Propagation → Propagation → Type 0
Before p q = IsBelow (place p) (place q)
