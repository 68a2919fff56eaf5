-- What a function of the program returned, against what reading gives.
use Rattle.std.specs.Prelude.{◌≡◌, ℕ, false, List, [], ◌∷◌, Option, None, Some, Result, Ok, Err, ◌==◌}
use Rattle.std.specs.Borrow.{Bor}
use Rattle.wire_reader.specs.declared.stop.Stop.{Stop}
use Rattle.wire_reader.specs.declared.stop.Stop.TheVariants.{Ends}
use Rattle.wire_reader.specs.declared.stop.ReadError.{ReadError}
use Rattle.wire_reader.specs.declared.stop.ReadError.TheVariants as errors

-- what was returned, seen by view, is what reading gives
abbrev pub Gives : {X A : Type 0} → (X → A × List ℕ) → Result X Stop → Result (A × List ℕ) Stop → Type 0
Gives view (Ok x) read = read ≡ Ok (view x)
Gives view (Err s) read = read ≡ Err s

-- the same, unless memory ran out
abbrev pub Failed : {A : Type 0} → ReadError → Result (A × List ℕ) Stop → Type 0
Failed errors.Memory read = Unit {0}
Failed (errors.At s) read = read ≡ Err s

abbrev pub GivesOr : {X A : Type 0} → (X → A × List ℕ) → Result X ReadError → Result (A × List ℕ) Stop → Type 0
GivesOr view (Ok x) read = read ≡ Ok (view x)
GivesOr view (Err e) read = Failed e read

-- what was returned, seen by view
abbrev pub viewed : {X A : Type 0} → (X → A × List ℕ) → Result X Stop → Result (A × List ℕ) Stop
viewed view (Ok x) = Ok (view x)
viewed view (Err s) = Err s

-- whether the separator stands at the front: then the bytes after it
abbrev pub SeparatorIs : ℕ → List ℕ → Result (Option (Bor (List ℕ))) Stop → Type 0
SeparatorIs c xs (Ok (Some rest)) = xs ≡ c ∷ rest.now
SeparatorIs c xs (Ok None) = (b : ℕ) × (bs : List ℕ) × (xs ≡ b ∷ bs) × ((b == c) ≡ false)
SeparatorIs c xs (Err s) = (xs ≡ []) × (s ≡ Ends None)
