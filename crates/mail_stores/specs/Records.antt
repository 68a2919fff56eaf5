-- What the real stores keep in mind, for contracts alone.
use Rattle.std.specs.Prelude.{ℕ, List, [], ◌∷◌, Option}
use Rattle.channels.specs.Asked.{Asked}

-- the home folder and the UIDVALIDITY of near mailboxes that have none, and each thing that the stores were asked for, the last first
pub record StoresRecord : Type 0 where
  pub home : Option (List ℕ)
  pub fresh : ℕ
  pub things : List Asked

-- the same, and this after it
abbrev pub noted : StoresRecord → Asked → StoresRecord
noted before one = record before { things = one ∷ before.things }

-- nothing was asked
abbrev pub none_asked : (home : Option (List ℕ)) → (fresh : ℕ) → StoresRecord
none_asked home fresh = record { home = home; fresh = fresh; things = [] }
