-- What a writer has done: it appended a text to what was there.
use Rattle.std.specs.Prelude.{◌≡◌, ℕ, List, ◌++◌}

-- a text of P was appended
pub record Appended (P : List ℕ → Type 0) (old new : List ℕ) : Type 0 where
  pub text : List ℕ
  pub parts : new ≡ old ++ text
  pub spelled : P text

-- what stood there was kept
abbrev pub Extended : List ℕ → List ℕ → Type 0
Extended old new = Appended (λ _. Unit {0}) old new
