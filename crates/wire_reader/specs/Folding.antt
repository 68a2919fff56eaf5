-- Items with a separator between, folded as they are read: from b on, with f.
use Rattle.std.specs.Prelude.{ℕ, zero, suc, List, [], ◌∷◌, length, None, Result, Ok, Err, ◌==◌, if◌then◌else◌}
use Rattle.wire_reader.specs.declared.stop.Stop.{Stop}
use Rattle.wire_reader.specs.declared.stop.Stop.TheVariants.{Ends}
use Rattle.wire_reader.specs.Reading.{◌>>=◌}

-- after an item: the next ones where the separator stands, else what the items so far gave
abbrev pub fold_on : {B : Type 0} → ℕ → B → (List ℕ → Result (B × List ℕ) Stop) → List ℕ → Result (B × List ℕ) Stop
fold_on sep b next [] = Err (Ends None)
fold_on sep b next (c ∷ cs) = if c == sep then next cs else Ok (b, c ∷ cs)

-- at most so many items
abbrev pub fold_by : {A B : Type 0} → ℕ → (List ℕ → Result (A × List ℕ) Stop) → (B → A → B) → ℕ → B → List ℕ → Result (B × List ℕ) Stop
fold_by sep r f zero b xs = Err (Ends None)
fold_by sep r f (suc n) b xs = r xs >>= λ x. fold_on sep (f b x.0) (fold_by sep r f n (f b x.0)) x.1

-- one or more items; each has at least a byte, so the bytes bound their number
abbrev pub folded : {A B : Type 0} → ℕ → (List ℕ → Result (A × List ℕ) Stop) → (B → A → B) → B → List ℕ → Result (B × List ℕ) Stop
folded sep r f b xs = fold_by sep r f (suc (length xs)) b xs
