-- How the flags that a plan gave are recorded in the entries, one step after another.
use Rattle.std.specs.Prelude.{ℕ, ◌<◌, ◌≡◌, true, false, List, length, get_or, Some}
use Rattle.std.specs.List.{list_any}
use Rattle.rules.specs.declared.entry.Entry.{Entry}
use Rattle.rules.specs.declared.plan.Step.{Step}
use Rattle.book.specs.Agreement.{is_pair}
use Rattle.book.specs.GivingUp.{flags_at, flags_after}

abbrev pub with_step : Step → Entry → Entry
with_step s e = record e { flags = flags_after s e }

abbrev pub with_next : Step → Entry → Entry
with_next s e = record e { flags = flags_at s e }

-- the step changes no entry
pub record IsOfNone (s : Step) : Type 0 where
  pub logged : (e : Entry) → flags_after s e ≡ e.flags
  pub next : (e : Entry) → flags_at s e ≡ e.flags

-- the step changes the entry of this pair, and no other
pub record IsOfOne (s : Step) (far near : ℕ) : Type 0 where
  pub logged : (e : Entry) → is_pair (Some far) (Some near) e ≡ false → flags_after s e ≡ e.flags
  pub next : (e : Entry) → is_pair (Some far) (Some near) e ≡ false → flags_at s e ≡ e.flags

abbrev pub HasNoPair : List Entry → (far near : ℕ) → Type 0
HasNoPair es far near = list_any (is_pair (Some far) (Some near)) es ≡ false

abbrev pub HasPairAt : List Entry → (far near at : ℕ) → Type 0
HasPairAt es far near at = (at < length es) × ((d : Entry) → is_pair (Some far) (Some near) (get_or es at d) ≡ true)
