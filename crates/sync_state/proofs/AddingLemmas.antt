-- What a call leaves of a text to which it adds.
use Rattle.std.proofs.Common.{◌≡◌, ℕ, List, ◌++◌, length, take, Result, Err, refl, sym, ap, subst, ◌∙◌}
use Rattle.std.proofs.lemmas.List.{take_at}
use Rattle.sync_state.specs.Adding.{Adds}

-- some of it stands there, and then a growth is refused
pub adds_none : {T E : Type 0} (result : Result T E) (fault : E) (old more some new : List ℕ) → result ≡ Err fault → new ≡ old ++ some → Adds result old more new
adds_none result fault old more some new is same =
    subst (λ r. Adds r old more new) (sym is) (ap (take (length old)) same ∙ take_at old some (length old) refl)
