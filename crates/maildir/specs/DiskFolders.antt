-- A folder on a disk with the record of the calls on it, as a contract sees it.
use Rattle.std.specs.Prelude.{◌≡◌, ◌+◌, ◌&&◌, ℕ, Bool, true, false, if◌then◌else◌, List, [], ◌∷◌, take, Vec, Option, Some, None}
use Rattle.std.specs.Global.{Global}
use Rattle.device.specs.Calls.{Seen}
use Rattle.device.specs.Conditions.{seen_in}
use Rattle.device.specs.Recorded.{Recorded}
use Rattle.maildir.specs.declared.disk_call.NameSync.{NameSync}
use Rattle.maildir.specs.declared.disk_call.NameSync.TheVariants.{In, Whole}
use Rattle.maildir.specs.declared.disk_call.DiskDeed.{DiskDeed}
use Rattle.maildir.specs.declared.disk_call.DiskDeed.TheVariants.{Asked, Found, Absent, Listed, Read, Missing, CopyMade, CopyGrown, CopySynced, Placed, Renamed, Removed, MetaRead, MetaMissing, NextMade, NextGrown, NextSynced, MetaReplaced, Synced}
use Rattle.maildir.specs.declared.folder.FileName.{FileName}
use Rattle.maildir.specs.declared.folder.Place.{Place}
use Rattle.maildir.specs.declared.folder.Place.TheVariants.{New, Cur}
use Rattle.maildir.specs.DiskEvents.{DiskEvent, DiskWorld, IsHonest, Standing, standing_after, with_copied}
use Rattle.maildir.specs.Folders.{Stored, Lists, is_place}
use Rattle.maildir.specs.Gains.{Adds, others}

abbrev pub FolderParts : Type 0
FolderParts = Recorded DiskWorld DiskEvent

-- what stands in the folder
abbrev pub standing : FolderParts → Standing
standing f = standing_after f.world f.events

-- each answer of the system was true so far, and others did no more than to add files
abbrev pub KeptWord : FolderParts → Type 0
KeptWord f = IsHonest f.world f.events

abbrev pub seen_on_disk : FolderParts → Seen Stored
seen_on_disk f = seen_in (standing f).stored f.disk.condition

-- one call more was noted
abbrev pub noted : DiskDeed → Bool → List ℕ → List ℕ → List FileName → FolderParts → FolderParts
noted deed is_ok name bytes names f =
    record f { events = record { call = record { deed = deed; is_ok = is_ok }; name = name; bytes = bytes; names = names } ∷ f.events }

-- ---- what outlives a loss of power

abbrev pub changes_names : DiskDeed → Bool
changes_names Asked = false
changes_names Found = false
changes_names Absent = false
changes_names (Listed place) = false
changes_names (Read place) = false
changes_names (Missing place) = false
changes_names CopyMade = false
changes_names CopyGrown = false
changes_names CopySynced = false
changes_names (Placed to) = true
changes_names (Renamed from to) = true
changes_names (Removed place) = true
changes_names MetaRead = false
changes_names MetaMissing = false
changes_names NextMade = false
changes_names NextGrown = false
changes_names NextSynced = false
changes_names MetaReplaced = true
changes_names (Synced names) = false

abbrev pub is_same : NameSync → NameSync → Bool
is_same (In place) (In other) = is_place place other
is_same (In place) Whole = false
is_same Whole (In other) = false
is_same Whole Whole = true

abbrev pub syncs : NameSync → DiskDeed → Bool
syncs names (Synced others) = is_same names others
syncs names deed = false

-- these names were synced after the last change of one; `first`: or, where there was no such call, they were when the folder was opened
abbrev pub are_synced : (first : Bool) → NameSync → List DiskEvent → Bool
are_synced first names [] = first
are_synced first names (e ∷ earlier) =
    if e.call.is_ok && syncs names e.call.deed then true else (if changes_names e.call.deed then false else are_synced first names earlier)

abbrev pub are_all_synced : (first : Bool) → List DiskEvent → Bool
are_all_synced first events = are_synced first (In Cur) events && (are_synced first (In New) events && are_synced first Whole events)

-- what was changed since the folder was opened is synced
abbrev pub is_synced_on_disk : FolderParts → Bool
is_synced_on_disk f = are_all_synced true f.events

-- all names were synced since the folder was opened, and none was changed after that: then what was changed before it was opened is synced, too
abbrev pub is_settled_on_disk : FolderParts → Bool
is_settled_on_disk f = are_all_synced false f.events

-- ---- how many files were asked for

abbrev pub asks : DiskDeed → ℕ
asks Asked = 1
asks deed = 0

abbrev pub asked : List DiskEvent → ℕ
asked [] = 0
asked (e ∷ earlier) = asks e.call.deed + asked earlier

abbrev pub asked_on_disk : FolderParts → ℕ
asked_on_disk f = asked f.events

-- ---- what several calls do

pub record Gained (old new : FolderParts) : Type 0 where
  pub disk : new.disk ≡ old.disk
  pub was_honest : KeptWord new → KeptWord old
  pub adds : KeptWord new → Adds others (standing old).stored (standing new).stored

-- these are the names of all that is stored
abbrev pub ListsAll : List FileName → FolderParts → Type 0
ListsAll names f = Lists (Some names) (standing f).stored

abbrev pub looked : Bool → DiskDeed
looked true = Found
looked false = Absent

-- a call that read the meta file, or found that it is missing
abbrev pub noted_meta : Option (Vec ℕ Global) → FolderParts → FolderParts
noted_meta (Some bytes) f = noted MetaRead true [] bytes.items [] f
noted_meta None f = noted MetaMissing true [] [] [] f

-- a call that read a message, or found that it is missing
abbrev pub noted_mail : Option (Vec ℕ Global) → Place → List ℕ → FolderParts → FolderParts
noted_mail (Some bytes) place name f = noted (Read place) true name bytes.items [] f
noted_mail None place name f = noted (Missing place) true name [] [] f

-- a beginning of these bytes stands in `tmp`
pub record CopyBegins (bytes : List ℕ) (old new : Standing) : Type 0 where
  pub count : ℕ
  pub written : new ≡ with_copied (take count bytes) old
