-- An index of the entries by the UIDs of one side.
use Rattle.std.specs.Prelude.{ℕ, ◌+◌, ◌<◌, ◌≡◌, ◌==◌, true, List, [], ◌∷◌, length, All}
use Rattle.std.specs.List.{list_any, slice_index_or}
use Rattle.std.specs.List.Sorted.{IsNonDecreasingBy}
use Rattle.mailcore.specs.declared.side.Side.{Side}
use Rattle.rules.specs.declared.entry.Entry.{Entry}
use Rattle.rules.specs.Entries.{uid_of}
use Rattle.planner.specs.declared.places.EntryPlace.{EntryPlace}

-- a place for each of these entries, the first of which is the k-th
abbrev pub places_from : ℕ → Side → List Entry → List EntryPlace
places_from k side [] = []
places_from k side (e ∷ es) = record { uid = uid_of side e; at = k } ∷ places_from (k + 1) side es

-- the place is that of an entry with its UID
pub record IsPlaceOf (side : Side) (es : List Entry) (p : EntryPlace) : Type 0 where
  pub bound : p.at < length es
  pub named : (d : Entry) → uid_of side (slice_index_or es p.at d) ≡ p.uid

-- it rises by the UIDs, and each entry has its place in it
pub record IsIndex (side : Side) (es : List Entry) (ps : List EntryPlace) : Type 0 where
  pub rising : IsNonDecreasingBy (λ p. p.uid) ps
  pub named : All (IsPlaceOf side es) ps
  pub whole : (k : ℕ) → k < length es → list_any (λ p. p.at == k) ps ≡ true
