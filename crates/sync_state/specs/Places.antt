-- A place of the code as a place of the definitions.
use Rattle.std.specs.Prelude.{ℕ, List, [], ◌∷◌}
use Rattle.sync_state.specs.declared.place.StepKind.{StepKind}
use Rattle.sync_state.specs.declared.place.StepKind.TheVariants.{NewPull, NewPush, GonePull, GonePush, FlagsPull, FlagsPush, ExpungeFar, ExpungeNear, RecordFlags, DropEntry}
use Rattle.sync_state.specs.declared.place.StepPlace.{StepPlace}

-- the number of a kind in the order of a plan
abbrev pub rank : StepKind → ℕ
rank NewPull = 0
rank NewPush = 1
rank GonePull = 2
rank GonePush = 3
rank FlagsPull = 4
rank FlagsPush = 5
rank ExpungeFar = 6
rank ExpungeNear = 7
rank RecordFlags = 8
rank DropEntry = 9

abbrev pub place_at : StepPlace → ℕ × ℕ × ℕ
place_at p = (rank p.kind, p.first, p.second)

-- the last of some places, or this one
abbrev pub last_of : ℕ × ℕ × ℕ → List (ℕ × ℕ × ℕ) → ℕ × ℕ × ℕ
last_of last [] = last
last_of last (p ∷ ps) = last_of p ps
