-- What may end a line or a code: nothing more, or a space and a part more.
use Rattle.std.specs.Prelude.{ℕ, List, [], ◌∷◌, Option, None, Some, Result, ◌==◌}
use Rattle.wire_reader.specs.declared.stop.Stop.{Stop}
use Rattle.wire_reader.specs.Spelling.{◌⨾◌, Is}
use Rattle.wire_reader.specs.Reading.{mapped, skip, by_first, byte_at}

-- the end, or a space and a text of the value, which has the end in it
abbrev pub RestText : {A : Type 0} → List ℕ → (A → List ℕ → Type 0) → Option A → List ℕ → Type 0
RestText end L None text = Is end text
RestText end L (Some a) text = (Is (32 ∷ []) ⨾ L a) text

-- the end begins with the byte c
abbrev pub rest_at : {A : Type 0} → ℕ → (List ℕ → Result (Unit {0} × List ℕ) Stop) → (List ℕ → Result (A × List ℕ) Stop) → List ℕ → Result (Option A × List ℕ) Stop
rest_at c end r = by_first (λ b. b == c) (mapped (λ _. None) end) (mapped (λ a. Some a) (skip (byte_at 32) r))
