-- What a writer has done, from what its calls say.
use Rattle.std.proofs.Common.{◌≡◌, ℕ, List, ◌++◌, Result, Ok, Err, ap, ◌∙◌, append_assoc}
use Rattle.std.specs.Prelude.{OnOk, is_ok, if◌then◌else◌}
use Rattle.std.specs.declared.alloc.AllocError.{AllocError}
use Rattle.wire_tokens.specs.Writing.{Appended, Extended}

-- a text that was appended if memory did not run out
pub appended : (P : List ℕ → Type 0) (old new text : List ℕ) (result : Result (Unit {0}) AllocError) → new ≡ (if is_ok result then old ++ text else old) → P text → OnOk result (Appended P old new)
appended P old new text (Ok _) parts spelled = record { text = text; parts = parts; spelled = spelled }
appended P old new text (Err _) parts spelled = tt

pub extended_twice : (old mid new : List ℕ) → Extended old mid → Extended mid new → Extended old new
extended_twice old mid new a b = record { text = a.text ++ b.text; parts = b.parts ∙ ap (λ (x : List ℕ). x ++ b.text) a.parts ∙ append_assoc old a.text b.text; spelled = tt }
