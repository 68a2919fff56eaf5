-- What a call that adds to a text leaves of it.
use Rattle.std.specs.Prelude.{◌≡◌, ◌++◌, ℕ, List, length, take, Result, Ok, Err}

-- this was added; or a growth was refused, and what the text was stands at its front
abbrev pub Adds : {T E : Type 0} → Result T E → (old more new : List ℕ) → Type 0
Adds (Ok done) old more new = new ≡ old ++ more
Adds (Err fault) old more new = take (length old) new ≡ old
