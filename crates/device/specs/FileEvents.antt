-- The calls of the system on the files of a folder, by their names, and what the files hold after them.
use Rattle.std.specs.Prelude.{◌≡◌, ℕ, zero, suc, min, Bool, true, if◌then◌else◌, List, [], ◌∷◌, ◌++◌, length, take, slice_index, bytes_eq, Option, Some, None, IsSome, unwrap_or}
use Rattle.device.specs.declared.file_call.FileCall.{FileCall}
use Rattle.device.specs.declared.file_call.Deed.{Deed}
use Rattle.device.specs.declared.file_call.Deed.TheVariants.{Read, Missing, Made, Grown, Renamed, Removed, Synced}

-- a call on the file of this name: which, and with which bytes, or with which new name
pub record FileEvent : Type 0 where
  pub call : FileCall
  pub name : List ℕ
  pub bytes : List ℕ

-- What no program can know: the files as they were before the first call, by their names, and of each call that failed how much of
-- it took place: nothing, or that it was begun, and with how many bytes.
pub record World : Type 0 where
  pub start : List (List ℕ × List ℕ)
  pub shares : List ℕ

-- the bytes of each file by its name, or none where it is missing
abbrev pub Contents : Type 0
Contents = List ℕ → Option (List ℕ)

abbrev pub holding : List (List ℕ × List ℕ) → Contents
holding [] name = None
holding (file ∷ files) name = if bytes_eq name file.0 then Some file.1 else holding files name

-- ---- what a call does

-- the file of this name holds these bytes, or is missing
abbrev pub with_bytes : List ℕ → Option (List ℕ) → Contents → Contents
with_bytes name bytes files other = if bytes_eq other name then bytes else files other

-- bytes stand after those of the file, which is there then
abbrev pub grown : List ℕ → List ℕ → Contents → Contents
grown name bytes files = with_bytes name (Some (unwrap_or (files name) [] ++ bytes)) files

abbrev pub or_else : Option (List ℕ) → Option (List ℕ) → Option (List ℕ)
or_else None other = other
or_else (Some bytes) other = Some bytes

-- a file has another name, if it is there
abbrev pub renamed : List ℕ → List ℕ → Contents → Contents
renamed from to files other =
    if bytes_eq other to then or_else (files from) (files to) else (if bytes_eq other from then None else files other)

-- what the files hold after a call that was done
abbrev pub done : Deed → List ℕ → List ℕ → Contents → Contents
done Read name bytes files = files
done Missing name bytes files = files
done Made name bytes files = grown name [] files
done Grown name bytes files = grown name bytes files
done Renamed name bytes files = renamed name bytes files
done Removed name bytes files = with_bytes name None files
done Synced name bytes files = files

-- what they hold after one that failed, of which so much took place
abbrev pub left : Deed → ℕ → List ℕ → List ℕ → Contents → Contents
left Read share name bytes files = files
left Missing share name bytes files = files
left Made zero name bytes files = files
left Made (suc share) name bytes files = grown name [] files
left Grown zero name bytes files = files
left Grown (suc share) name bytes files = grown name (take (min share (length bytes)) bytes) files
left Renamed zero name bytes files = files
left Renamed (suc share) name bytes files = renamed name bytes files
left Removed zero name bytes files = files
left Removed (suc share) name bytes files = with_bytes name None files
left Synced share name bytes files = files

abbrev pub after : FileEvent → ℕ → Contents → Contents
after event share files name =
    if event.call.is_ok then done event.call.deed event.name event.bytes files name else left event.call.deed share event.name event.bytes files name

-- what the files hold after these calls, the last one first
abbrev pub files_after : World → List FileEvent → Contents
files_after world [] = holding world.start
files_after world (event ∷ earlier) = after event (slice_index world.shares (length earlier)) (files_after world earlier)

-- ---- what is asked of the system

-- the answer of a call that was done is true of the files before it
abbrev pub is_true : Deed → List ℕ → List ℕ → Contents → Type 0
is_true Read name bytes files = files name ≡ Some bytes
is_true Missing name bytes files = files name ≡ None
is_true Made name bytes files = files name ≡ None
is_true Grown name bytes files = IsSome (files name)
is_true Renamed name bytes files = IsSome (files name)
is_true Removed name bytes files = IsSome (files name)
is_true Synced name bytes files = Unit {0}

-- The answers are those of a file system whose files held this, and to which nobody else wrote.
abbrev pub IsHonest : World → List FileEvent → Type 0
IsHonest world [] = Unit {0}
IsHonest world (event ∷ earlier) =
    IsHonest world earlier × (event.call.is_ok ≡ true → is_true event.call.deed event.name event.bytes (files_after world earlier))
