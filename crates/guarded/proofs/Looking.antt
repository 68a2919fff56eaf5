-- What a look has found.
use Rattle.std.proofs.Common.{◌≡◌, ℕ, true, List, [], ◌∷◌, Option, None, Some, Result, Ok, Err, arith, length, refl}
use Rattle.std.specs.Prelude.{IfOk}
use Rattle.std.specs.Option.{option_map}
use Rattle.maildir.specs.declared.standing.NameReading.{NameReading}
use Rattle.maildir.specs.declared.standing.Stale.{Stale}
use Rattle.maildir.specs.Standings.{HasLooked}
use Rattle.guarded.specs.declared.objection.Objection.{Objection}
use Rattle.guarded.specs.Watches.{FindsOf, finds_nothing, objection_to}

pub finds_none : (gone marked : List ℕ) (readings : List NameReading) → length gone ≡ 0 → length marked ≡ 0 → FindsOf gone marked None readings readings
finds_none [] [] readings a b = (refl, refl)
finds_none [] (u ∷ us) readings a b = absurd (omega (arith, b))
finds_none (u ∷ us) marked readings a b = absurd (omega (arith, a))

pub finds_some : (gone marked : List ℕ) (stale : Option Stale) (found : Option Objection) (old now : List NameReading) → (length gone ≡ 0 → length marked ≡ 0 → ⊥) → HasLooked gone marked stale old now → found ≡ option_map objection_to stale
    → FindsOf gone marked found old now
finds_some [] [] stale found old now some looked is = absurd (some refl refl)
finds_some [] (u ∷ us) stale found old now some looked is = record { stale = stale; looked = looked; objection = is }
finds_some (u ∷ us) marked stale found old now some looked is = record { stale = stale; looked = looked; objection = is }

-- a look that is clear has found nothing
pub clear_finds : {T E : Type 0} (r : Result (Option T) E) (P : Option T → Type 0) → finds_nothing r ≡ true → IfOk r P → P None
clear_finds (Ok None) P clear p = p
clear_finds (Ok (Some found)) P clear p = cc
clear_finds (Err fault) P clear p = cc
