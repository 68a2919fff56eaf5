-- The calls of the system on the folder of a mailbox, and what stands there after them.
use Rattle.std.specs.Prelude.{◌≡◌, ◌++◌, ℕ, zero, suc, min, Bool, true, false, if◌then◌else◌, List, [], ◌∷◌, All, length, take, filter, map, slice_index, get_or, Option, Some, None, is_some, unwrap_or}
use Rattle.std.specs.List.{list_any}
use Rattle.std.specs.List.Sorted.{IsPermutation}
use Rattle.maildir.specs.declared.disk_call.DiskCall.{DiskCall}
use Rattle.maildir.specs.declared.disk_call.DiskDeed.{DiskDeed}
use Rattle.maildir.specs.declared.disk_call.DiskDeed.TheVariants.{Asked, Found, Absent, Listed, Read, Missing, CopyMade, CopyGrown, CopySynced, Placed, Renamed, Removed, MetaRead, MetaMissing, NextMade, NextGrown, NextSynced, MetaReplaced, Synced}
use Rattle.maildir.specs.declared.folder.File.{File}
use Rattle.maildir.specs.declared.folder.FileName.{FileName}
use Rattle.maildir.specs.declared.folder.Place.{Place}
use Rattle.maildir.specs.Folders.{Stored, AreApart, bytes_at, is_at, is_place, name_of_file, placed, removed_file, renamed_file, with_copy, with_meta}
use Rattle.maildir.specs.Gains.{IsArrival, others}

-- what is stored, and the bytes of the next meta file, where there is one
pub record Standing : Type 0 where
  pub stored : Stored
  pub next : Option (List ℕ)

-- a call: which, on the file of this name, with these bytes or this new name, or which names it gave
pub record DiskEvent : Type 0 where
  pub call : DiskCall
  pub name : List ℕ
  pub bytes : List ℕ
  pub names : List FileName

-- What no program can know: what stood there before the first call, what others had added when each call was made, and of each one
-- that failed how much of it took place: nothing, or that it was begun, and with how many bytes.
pub record DiskWorld : Type 0 where
  pub start : Standing
  pub arrivals : List (List File)
  pub shares : List ℕ

-- ---- what a call does

abbrev pub with_arrivals : List File → Standing → Standing
with_arrivals arrivals s = record s { stored = record s.stored { files = s.stored.files ++ arrivals } }

abbrev pub with_copied : List ℕ → Standing → Standing
with_copied bytes s = record s { stored = with_copy bytes s.stored }

-- the bytes of the copy, and these after them
abbrev pub copy_and : List ℕ → Standing → List ℕ
copy_and bytes s = unwrap_or s.stored.copy [] ++ bytes

abbrev pub next_and : List ℕ → Standing → List ℕ
next_and bytes s = unwrap_or s.next [] ++ bytes

abbrev pub beginning : ℕ → List ℕ → List ℕ
beginning share bytes = take (min share (length bytes)) bytes

abbrev pub named : Place → List ℕ → FileName
named place name = record { place = place; name = name }

abbrev pub has_file : Place → List ℕ → Standing → Bool
has_file place name s = list_any (is_at place name) s.stored.files

-- the next meta file takes the place of the meta file, if it is there
abbrev pub replaced : Option (List ℕ) → Standing → Standing
replaced None s = s
replaced (Some text) s = record { stored = with_meta text s.stored; next = None }

-- what stands there after a call that was done
abbrev pub done : DiskDeed → DiskEvent → List File → Standing → Standing
done Asked e arrivals s = s
done Found e arrivals s = s
done Absent e arrivals s = s
done (Listed place) e arrivals s = with_arrivals arrivals s
done (Read place) e arrivals s = s
done (Missing place) e arrivals s = s
done CopyMade e arrivals s = with_copied [] s
done CopyGrown e arrivals s = with_copied (copy_and e.bytes s) s
done CopySynced e arrivals s = s
done (Placed to) e arrivals s = record s { stored = placed (named to e.name) s.stored }
done (Renamed from to) e arrivals s = record s { stored = renamed_file (named from e.name) (named to e.bytes) s.stored }
done (Removed place) e arrivals s = record s { stored = removed_file (named place e.name) s.stored }
done MetaRead e arrivals s = s
done MetaMissing e arrivals s = s
done NextMade e arrivals s = record s { next = Some [] }
done NextGrown e arrivals s = record s { next = Some (next_and e.bytes s) }
done NextSynced e arrivals s = s
done MetaReplaced e arrivals s = replaced s.next s
done (Synced names) e arrivals s = s

-- what stands there after one that failed, of which so much took place: of a copy any beginning may stand then
abbrev pub left : DiskDeed → ℕ → DiskEvent → Standing → Standing
left Asked share e s = s
left Found share e s = s
left Absent share e s = s
left (Listed place) share e s = s
left (Read place) share e s = s
left (Missing place) share e s = s
left CopyMade zero e s = s
left CopyMade (suc share) e s = with_copied [] s
left CopyGrown share e s = with_copied (beginning share (copy_and e.bytes s)) s
left CopySynced share e s = with_copied (beginning share (copy_and [] s)) s
left (Placed to) zero e s = s
left (Placed to) (suc share) e s = if is_some s.stored.copy then done (Placed to) e [] s else s
left (Renamed from to) zero e s = s
left (Renamed from to) (suc share) e s = if has_file from e.name s then done (Renamed from to) e [] s else s
left (Removed place) zero e s = s
left (Removed place) (suc share) e s = if has_file place e.name s then done (Removed place) e [] s else s
left MetaRead share e s = s
left MetaMissing share e s = s
left NextMade zero e s = s
left NextMade (suc zero) e s = record s { next = None }
left NextMade (suc (suc share)) e s = record s { next = Some [] }
left NextGrown share e s = record s { next = Some (beginning share (next_and e.bytes s)) }
left NextSynced share e s = s
left MetaReplaced zero e s = s
left MetaReplaced (suc share) e s = replaced s.next s
left (Synced names) share e s = s

abbrev pub after : DiskEvent → List File → ℕ → Standing → Standing
after e arrivals share s = if e.call.is_ok then done e.call.deed e arrivals s else left e.call.deed share e s

-- what stands there after these calls, the last one first
abbrev pub standing_after : DiskWorld → List DiskEvent → Standing
standing_after world [] = world.start
standing_after world (e ∷ earlier) =
    after e (get_or world.arrivals (length earlier) []) (slice_index world.shares (length earlier)) (standing_after world earlier)

-- ---- what is asked of the system

abbrev pub is_in : Place → File → Bool
is_in place file = is_place place file.place

-- Others have added these files to the folder since its names were read before. Then these are the names of all that stand in it, and
-- none stands there twice.
pub record IsListed (place : Place) (read : List FileName) (arrivals : List File) (s : Stored) : Type 0 where
  pub is_there : s.is_there ≡ true
  pub arrived : All (IsArrival others.ours s.files) arrivals
  pub here : All (λ file. is_in place file ≡ true) arrivals
  pub apart : AreApart (s.files ++ arrivals)
  pub names : IsPermutation (map name_of_file (filter (is_in place) (s.files ++ arrivals))) read

-- the answer of a call that was done is true of what stood there before it
abbrev pub IsTrue : DiskDeed → DiskEvent → List File → Standing → Type 0
IsTrue Asked e arrivals s = Unit {0}
IsTrue Found e arrivals s = s.stored.is_there ≡ true
IsTrue Absent e arrivals s = s.stored.is_there ≡ false
IsTrue (Listed place) e arrivals s = IsListed place e.names arrivals s.stored
IsTrue (Read place) e arrivals s = bytes_at place e.name s.stored ≡ Some e.bytes
IsTrue (Missing place) e arrivals s = bytes_at place e.name s.stored ≡ None
IsTrue CopyMade e arrivals s = Unit {0}
IsTrue CopyGrown e arrivals s = Unit {0}
IsTrue CopySynced e arrivals s = Unit {0}
IsTrue (Placed to) e arrivals s = is_some s.stored.copy ≡ true
IsTrue (Renamed from to) e arrivals s = has_file from e.name s ≡ true
IsTrue (Removed place) e arrivals s = has_file place e.name s ≡ true
IsTrue MetaRead e arrivals s = s.stored.meta ≡ Some e.bytes
IsTrue MetaMissing e arrivals s = s.stored.meta ≡ None
IsTrue NextMade e arrivals s = Unit {0}
IsTrue NextGrown e arrivals s = Unit {0}
IsTrue NextSynced e arrivals s = Unit {0}
IsTrue MetaReplaced e arrivals s = is_some s.next ≡ true
IsTrue (Synced names) e arrivals s = Unit {0}

-- The answers are those of a folder in which this stood, and to which others did no more than to add files.
abbrev pub IsHonest : DiskWorld → List DiskEvent → Type 0
IsHonest world [] = Unit {0}
IsHonest world (e ∷ earlier) = IsHonest world earlier
    × (e.call.is_ok ≡ true → IsTrue e.call.deed e (get_or world.arrivals (length earlier) []) (standing_after world earlier))
