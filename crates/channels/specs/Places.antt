-- Places as they are collected, each once.
use Rattle.std.specs.Prelude.{ℕ, ◌==◌, List, [], ◌∷◌, ◌++◌, if◌then◌else◌}
use Rattle.std.specs.List.{list_any}

-- a place after the others, if it is not there yet
abbrev pub with_place : List ℕ → ℕ → List ℕ
with_place places p = if list_any (λ q. q == p) places then places else places ++ p ∷ []

abbrev pub with_places : List ℕ → List ℕ → List ℕ
with_places places [] = places
with_places places (p ∷ ps) = with_places (with_place places p) ps
