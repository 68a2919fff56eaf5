-- The files of a folder with the record of the calls on them, as a contract sees them.
use Rattle.std.specs.Prelude.{◌≡◌, ◌≤◌, ◌⊎◌, ℕ, Bool, true, false, List, [], ◌∷◌, ◌++◌, length, take, Option, Some, None, unwrap_or, Vec}
use Rattle.std.specs.Global.{Global}
use Rattle.device.specs.declared.file_call.Deed.{Deed}
use Rattle.device.specs.declared.file_call.Deed.TheVariants.{Read, Missing, Removed, Renamed, Synced}
use Rattle.device.specs.FileEvents.{FileEvent, World, Contents, IsHonest, files_after}
use Rattle.device.specs.Recorded.{Recorded}

abbrev pub FilesParts : Type 0
FilesParts = Recorded World FileEvent

-- what the files hold
abbrev pub held : FilesParts → Contents
held f = files_after f.world f.events

-- each answer of the system was true so far, and nobody else wrote to the files
abbrev pub KeptWord : FilesParts → Type 0
KeptWord f = IsHonest f.world f.events

-- the bytes of a file, or no byte where it is missing
abbrev pub bytes_in : FilesParts → List ℕ → List ℕ
bytes_in f name = unwrap_or (held f name) []

-- one call more was noted
abbrev pub noted : Deed → Bool → List ℕ → List ℕ → FilesParts → FilesParts
noted deed is_ok name bytes f = record f { events = record { call = record { deed = deed; is_ok = is_ok }; name = name; bytes = bytes } ∷ f.events }

-- a call that read a file, or found that it is missing
abbrev pub noted_read : Option (Vec ℕ Global) → List ℕ → FilesParts → FilesParts
noted_read (Some bytes) name f = noted Read true name bytes.items f
noted_read None name f = noted Missing true name [] f

-- a call that removed a file, or found that it is missing
abbrev pub noted_removal : Bool → List ℕ → FilesParts → FilesParts
noted_removal true name f = noted Removed true name [] f
noted_removal false name f = noted Missing true name [] f

-- what a vector holds, where there is one
abbrev pub bytes_of : Option (Vec ℕ Global) → Option (List ℕ)
bytes_of None = None
bytes_of (Some bytes) = Some bytes.items

-- ---- several calls

-- the calls on these files alone that were noted
pub record Touches (names : List ℕ → Type 0) (old new : FilesParts) : Type 0 where
  pub disk : new.disk ≡ old.disk
  pub was_honest : KeptWord new → KeptWord old
  pub others : (n : List ℕ) → (names n → ⊥) → held new n ≡ held old n

-- the file of this name holds these bytes, or is missing
abbrev pub HoldsAt : List ℕ → Option (List ℕ) → FilesParts → Type 0
HoldsAt name bytes f = held f name ≡ bytes

-- bytes stand after those of a file
abbrev pub Grew : List ℕ → List ℕ → FilesParts → FilesParts → Type 0
Grew name bytes old new = held new name ≡ Some (bytes_in old name ++ bytes)

-- a beginning of them does
pub record GrewPart (name bytes : List ℕ) (old new : FilesParts) : Type 0 where
  pub count : ℕ
  pub within : count ≤ length bytes
  pub part : Grew name (take count bytes) old new

-- the file is as it was, or a beginning of them stands after its own
abbrev pub GrewOrNot : List ℕ → List ℕ → FilesParts → FilesParts → Type 0
GrewOrNot name bytes old new = (held new name ≡ held old name) ⊎ GrewPart name bytes old new

-- the file is as it was, or holds these bytes, or is missing
abbrev pub HoldsOrNot : List ℕ → Option (List ℕ) → FilesParts → FilesParts → Type 0
HoldsOrNot name bytes old new = (held new name ≡ held old name) ⊎ HoldsAt name bytes new

abbrev pub Same : List ℕ → List ℕ → Type 0
Same name n = n ≡ name

abbrev pub Either : List ℕ → List ℕ → List ℕ → Type 0
Either name other n = (n ≡ name) ⊎ (n ≡ other)

abbrev pub NoFile : List ℕ → Type 0
NoFile n = ⊥

-- ---- what outlives a loss of power

-- a call that was done
abbrev pub did : Deed → List ℕ → List ℕ → FileEvent
did deed name bytes = record { call = record { deed = deed; is_ok = true }; name = name; bytes = bytes }

-- these calls were made last, the last one first
pub record EndsWith (calls : List FileEvent) (f : FilesParts) : Type 0 where
  pub earlier : List FileEvent
  pub events : f.events ≡ calls ++ earlier

-- the last call has synced the bytes of this file
abbrev pub IsSynced : List ℕ → FilesParts → Type 0
IsSynced name f = EndsWith (did Synced name [] ∷ []) f

-- the last call has synced the names, after that file was synced
abbrev pub IsNamed : List ℕ → FilesParts → Type 0
IsNamed name f = EndsWith (did Synced [] [] ∷ did Synced name [] ∷ []) f

-- a file was synced under the other name, then it got this one, and then the names were synced
abbrev pub IsReplaced : (name other : List ℕ) → FilesParts → Type 0
IsReplaced name other f = EndsWith (did Synced [] [] ∷ did Renamed other name ∷ did Synced other [] ∷ []) f
