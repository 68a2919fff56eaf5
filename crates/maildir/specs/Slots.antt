-- Slots for files, of which some are empty, and what an index says of them.
use Rattle.std.specs.Prelude.{◌≡◌, ℕ, Bool, false, List, [], ◌∷◌, Option, None, Some, is_some, position}
use Rattle.std.specs.List.{list_any}
use Rattle.maildir.specs.declared.folder.Place.{Place}
use Rattle.maildir.specs.declared.folder.File.{File}
use Rattle.maildir.specs.declared.folder.FileName.{FileName}
use Rattle.maildir.specs.declared.name_index.NameIndex.{NameIndex}
use Rattle.maildir.specs.Folders.{is_at}
use Rattle.maildir.specs.NameIndexes.{found_at}

-- the files in slots, in their order
abbrev pub files_in : List (Option File) → List File
files_in [] = []
files_in (None ∷ slots) = files_in slots
files_in (Some file ∷ slots) = file ∷ files_in slots

-- a file that stands at this place under this name is in the slot
abbrev pub holds : Place → List ℕ → Option File → Bool
holds place name None = false
holds place name (Some file) = is_at place name file

-- the index says in which slot each name is
abbrev pub Reports : NameIndex → List (Option File) → Type 0
Reports index slots = (place : Place) (name : List ℕ) → found_at place name index ≡ position (holds place name) slots

-- the index knows the names of these files, and no other
abbrev pub IsOf : NameIndex → List (Option File) → Type 0
IsOf index slots = (place : Place) (name : List ℕ) → is_some (found_at place name index) ≡ list_any (holds place name) slots

-- the same bytes at another place, under another name
abbrev pub under : FileName → File → File
under to file = record { place = to.place; name = to.name; bytes = file.bytes }
