-- Names that stand for one thing only.
use Rattle.std.specs.Prelude.{ℕ, ◌≡◌, nat_eq, Bool, true, false, List, [], ◌∷◌, ◌++◌, Result, Ok, Err}
use Rattle.std.specs.List.{list_any}
use Rattle.std.specs.Cmp.Lexicographic.{pointwise}
use Rattle.config_words.specs.declared.fault.FaultKind.{FaultKind}
use Rattle.config_words.specs.declared.fault.FaultKind.TheVariants.{DefinedTwice, NoMemory}

abbrev pub is_taken : (name : List ℕ) (names : List (List ℕ)) → Bool
is_taken name names = list_any (λ other. pointwise nat_eq other name) names

-- a name joins others, unless it is one of them or memory ran out
abbrev pub IsClaimed : (old : List (List ℕ)) (name : List ℕ) (new : List (List ℕ)) → Result (Unit {0}) FaultKind → Type 0
IsClaimed old name new (Ok done) = (is_taken name old ≡ false) × (new ≡ old ++ name ∷ [])
IsClaimed old name new (Err DefinedTwice) = (is_taken name old ≡ true) × (new ≡ old)
IsClaimed old name new (Err NoMemory) = new ≡ old
IsClaimed old name new (Err _) = ⊥
