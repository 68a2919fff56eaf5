-- What a folder stores, and what a call on it does, whether it stops or not.
use Rattle.std.specs.Prelude.{◌≡◌, ℕ, Bool, true, false, not, ◌&&◌, ◌||◌, nat_eq, List, [], ◌∷◌, ◌++◌, map, filter, find, take, Option, None, Some, is_some, AllPairs, if◌then◌else◌, Vec}
use Rattle.std.specs.Global.{Global}
use Rattle.std.specs.List.{list_any}
use Rattle.std.specs.List.Sorted.{IsPermutation}
use Rattle.std.specs.Option.{option_map}
use Rattle.std.specs.Cmp.Lexicographic.{pointwise}
use Rattle.maildir.specs.declared.folder.Place.{Place}
use Rattle.maildir.specs.declared.folder.Place.TheVariants.{New, Cur}
use Rattle.maildir.specs.declared.folder.File.{File}
use Rattle.maildir.specs.declared.folder.FileName.{FileName}
use Rattle.maildir.specs.declared.folder.Location.{Location}
use Rattle.maildir.specs.declared.folder.Source.{Source}
use Rattle.maildir.specs.declared.folder.Source.TheVariants.{Meta, Mail}
use Rattle.maildir.specs.declared.folder.Origin.{Origin}
use Rattle.maildir.specs.declared.folder.Origin.TheVariants.{Tmp, Delivered}

-- ---- what is stored

-- whether `cur`, `new` and `tmp` are there, the files of `new` and `cur` in some order, the copy that is being
-- written in `tmp`, and the text of the meta file
pub record Stored : Type 0 where
  pub is_there : Bool
  pub files : List File
  pub copy : Option (List ℕ)
  pub meta : Option (List ℕ)

abbrev pub is_place : Place → Place → Bool
is_place New New = true
is_place New Cur = false
is_place Cur New = false
is_place Cur Cur = true

-- a file that stands at this place under this name
abbrev pub is_at : Place → List ℕ → File → Bool
is_at place name file = is_place place file.place && pointwise nat_eq name file.name

abbrev pub name_of_file : File → FileName
name_of_file file = record { place = file.place; name = file.name }

-- no two files stand at one place under one name
abbrev pub AreApart : List File → Type 0
AreApart files = AllPairs (λ a b. name_of_file a ≡ name_of_file b → ⊥) files

-- ---- calls that read

-- the names in `new` and `cur`, in any order, or none where one of the three folders is missing
abbrev pub Lists : Option (List FileName) → Stored → Type 0
Lists None s = s.is_there ≡ false
Lists (Some names) s = (s.is_there ≡ true) × IsPermutation (map name_of_file s.files) names × AreApart s.files

abbrev pub bytes_at : Place → List ℕ → Stored → Option (List ℕ)
bytes_at place name s = option_map (λ file. file.bytes) (find (is_at place name) s.files)

-- the bytes of a file, or none where it is missing
abbrev pub bytes_of : Source → Stored → Option (List ℕ)
bytes_of Meta s = s.meta
bytes_of (Mail file) s = bytes_at file.place file.name.now s

-- ---- calls that write

-- the copy in `tmp` has these bytes
abbrev pub with_copy : List ℕ → Stored → Stored
with_copy bytes s = record s { copy = Some bytes }

-- a beginning of these bytes stands in `tmp`
pub record Begins (bytes : List ℕ) (old new : Stored) : Type 0 where
  pub count : ℕ
  pub written : new ≡ with_copy (take count bytes) old

abbrev pub with_meta : List ℕ → Stored → Stored
with_meta text s = record s { meta = Some text }

-- the file that is spared, or any that does not stand at this place under this name
abbrev pub is_left : Option FileName → Place → List ℕ → File → Bool
is_left None place name file = not (is_at place name file)
is_left (Some spared) place name file = is_at spared.place spared.name file || not (is_at place name file)

abbrev pub left : Option FileName → Place → List ℕ → List File → List File
left spared place name files = filter (is_left spared place name) files

-- the files without the one at this place under this name
abbrev pub without : Place → List ℕ → List File → List File
without = left None

abbrev pub removed_file : FileName → Stored → Stored
removed_file file s = record s { files = without file.place file.name s.files }

abbrev pub removed : Location → Stored → Stored
removed file s = removed_file (record { place = file.place; name = file.name.now }) s

-- a file stands there
abbrev pub is_there : Origin → Stored → Bool
is_there Tmp s = is_some s.copy
is_there (Delivered file) s = list_any (is_at file.place file.name.now) s.files

-- a file that is there was removed
pub record Removes (file : Location) (old new : Stored) : Type 0 where
  pub was_there : is_there (Delivered file) old ≡ true
  pub now : new ≡ removed file old

-- a file under its new name, and any other as it was; a file that had the new name before goes
abbrev pub moved : (from to : FileName) → File → File
moved from to file =
    if is_at from.place from.name file then record { place = to.place; name = to.name; bytes = file.bytes } else file

abbrev pub copied_to : FileName → Option (List ℕ) → List File → List File
copied_to to None files = files
copied_to to (Some bytes) files =
    without to.place to.name files ++ record { place = to.place; name = to.name; bytes = bytes } ∷ []

abbrev pub name_at : Location → FileName
name_at at = record { place = at.place; name = at.name.now }

-- the copy in `tmp` gets a name
abbrev pub placed : FileName → Stored → Stored
placed to s = record s { files = copied_to to s.copy s.files; copy = None }

abbrev pub renamed_file : (from to : FileName) → Stored → Stored
renamed_file from to s = record s { files = map (moved from to) (left (Some from) to.place to.name s.files) }

abbrev pub renamed : Origin → Location → Stored → Stored
renamed Tmp to s = placed (name_at to) s
renamed (Delivered from) to s = renamed_file (name_at from) (name_at to) s

-- a file that is there was renamed
pub record Renames (from : Origin) (to : Location) (old new : Stored) : Type 0 where
  pub was_there : is_there from old ≡ true
  pub now : new ≡ renamed from to old

-- what a vector holds, where there is one
abbrev pub listed : Option (Vec FileName Global) → Option (List FileName)
listed names = option_map (λ v. v.items) names

abbrev pub text_of : Option (Vec ℕ Global) → Option (List ℕ)
text_of bytes = option_map (λ v. v.items) bytes
