-- UIDs that are given one after another.
use Rattle.std.specs.Prelude.{ℕ, ◌+◌, ◌≤◌, List, [], ◌∷◌}

-- UIDs rise from `from` on and stay below `next`
abbrev pub Rise : (from : ℕ) → (uids : List ℕ) → (next : ℕ) → Type 0
Rise from [] next = from ≤ next
Rise from (uid ∷ uids) next = (from ≤ uid) × Rise (uid + 1) uids next
