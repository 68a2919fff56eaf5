-- Items with a separator between, and parts that may not run into what follows.
use Rattle.std.specs.Prelude.{ℕ, Bool, zero, suc, List, [], ◌∷◌, ◌++◌, length, Option, None, Some, Result, Ok, Err, ◌==◌, if◌then◌else◌}
use Rattle.wire_reader.specs.declared.stop.Stop.{Stop}
use Rattle.wire_reader.specs.declared.stop.Stop.TheVariants.{Ends}
use Rattle.wire_reader.specs.Reading.{◌>>=◌, stuck, mapped}

-- after an item: the next ones where the separator stands, else the items so far
abbrev pub go_on : {A : Type 0} → ℕ → List A → (List ℕ → Result (List A × List ℕ) Stop) → List ℕ → Result (List A × List ℕ) Stop
go_on sep acc next [] = Err (Ends None)
go_on sep acc next (b ∷ bs) = if b == sep then next bs else Ok (acc, b ∷ bs)

-- at most so many items after those of acc
abbrev pub items_by : {A : Type 0} → ℕ → (List ℕ → Result (A × List ℕ) Stop) → ℕ → List A → List ℕ → Result (List A × List ℕ) Stop
items_by sep r zero acc xs = Err (Ends None)
items_by sep r (suc n) acc xs = r xs >>= λ x. go_on sep (acc ++ x.0 ∷ []) (items_by sep r n (acc ++ x.0 ∷ [])) x.1

-- one or more items; each has at least a byte, so the bytes bound their number
abbrev pub items_at : {A : Type 0} → ℕ → (List ℕ → Result (A × List ℕ) Stop) → List ℕ → Result (List A × List ℕ) Stop
items_at sep r xs = items_by sep r (suc (length xs)) [] xs

-- ---- a part that no byte of a class may follow

abbrev pub ended_by : {A : Type 0} → (ℕ → Bool) → A → List ℕ → Result (A × List ℕ) Stop
ended_by class a [] = Err (Ends None)
ended_by class a (c ∷ cs) = if class c then stuck (c ∷ cs) else Ok (a, c ∷ cs)

abbrev pub ended : {A : Type 0} → (ℕ → Bool) → (List ℕ → Result (A × List ℕ) Stop) → List ℕ → Result (A × List ℕ) Stop
ended class r xs = r xs >>= λ x. ended_by class x.0 x.1

-- ---- a part that may be left out

-- After a token of the class g: the part that begins with the byte c, or nothing. The token has taken what it could, so
-- that no byte of its class stands here.
abbrev pub opt_at : {A : Type 0} → (ℕ → Bool) → ℕ → (List ℕ → Result (A × List ℕ) Stop) → List ℕ → Result (Option A × List ℕ) Stop
opt_at g c s [] = Err (Ends None)
opt_at g c s (b ∷ bs) = if b == c then mapped (λ a. Some a) s bs else (if g b then stuck (b ∷ bs) else Ok (None, b ∷ bs))
