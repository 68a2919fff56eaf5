-- Names in the order of their bytes.
use Rattle.std.specs.Prelude.{ℕ, Bool, true, false, ◌&&◌, ◌||◌, ◌==◌, nat_lt, List, [], ◌∷◌, fold, if◌then◌else◌}

abbrev pub stands_before : (a b : List ℕ) → Bool
stands_before a [] = false
stands_before [] (d ∷ ds) = true
stands_before (c ∷ cs) (d ∷ ds) = nat_lt c d || c == d && stands_before cs ds

-- a name at its place among others
abbrev pub put_in : List (List ℕ) → (name : List ℕ) → List (List ℕ)
put_in [] name = name ∷ []
put_in (n ∷ ns) name = if stands_before name n then name ∷ n ∷ ns else n ∷ put_in ns name

abbrev pub in_order : List (List ℕ) → List (List ℕ)
in_order names = fold put_in [] names
