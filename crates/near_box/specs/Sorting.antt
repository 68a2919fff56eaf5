-- Lists in an order.
use Rattle.std.specs.Prelude.{Bool, List, [], ◌∷◌, if◌then◌else◌}

-- an element before the first that it is below
abbrev pub put : {A : Type 0} → (A → A → Bool) → A → List A → List A
put below x [] = x ∷ []
put below x (y ∷ ys) = if below x y then x ∷ y ∷ ys else y ∷ put below x ys

abbrev pub sorted : {A : Type 0} → (A → A → Bool) → List A → List A
sorted below [] = []
sorted below (x ∷ xs) = put below x (sorted below xs)
