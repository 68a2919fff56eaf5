-- What an index of names says.
use Rattle.std.specs.Prelude.{◌≡◌, ◌<◌, ◌≤◌, ℕ, Bool, ◌&&◌, nat_eq, List, Option, Vec}
use Rattle.std.specs.Global.{Global}
use Rattle.std.specs.Cmp.Lexicographic.{pointwise}
use Rattle.std.specs.HashMap.{HashMap, get_by, spare}
use Rattle.maildir.specs.declared.folder.Place.{Place}
use Rattle.maildir.specs.declared.folder.Place.TheVariants.{New, Cur}
use Rattle.maildir.specs.declared.folder.FileName.{FileName}
use Rattle.maildir.specs.declared.name_index.NameIndex.{NameIndex}
use Rattle.maildir.specs.Folders.{is_place}

abbrev pub found_in : {S : Type 0} → List ℕ → HashMap (Vec ℕ Global) ℕ S → Option ℕ
found_in name spots = get_by (λ key. pointwise nat_eq name key.items) spots

-- where the index says that the file at this place under this name stands
abbrev pub found_at : Place → List ℕ → NameIndex → Option ℕ
found_at New name index = found_in name index.fresh
found_at Cur name index = found_in name index.current

abbrev pub named : Place → List ℕ → FileName
named place name = record { place = place; name = name }

-- this is the file's place and name
abbrev pub is_named : FileName → Place → List ℕ → Bool
is_named file place name = is_place place file.place && pointwise nat_eq name file.name

abbrev pub SaysSame : (old new : NameIndex) → Type 0
SaysSame old new = (place : Place) (name : List ℕ) → found_at place name new ≡ found_at place name old

-- one more name fits at each place
abbrev pub HasRoom : NameIndex → Type 0
HasRoom index = (0 < spare index.fresh) × (0 < spare index.current)

abbrev pub KeepsRoom : (old new : NameIndex) → Type 0
KeepsRoom old new = (spare old.fresh ≤ spare new.fresh) × (spare old.current ≤ spare new.current)
