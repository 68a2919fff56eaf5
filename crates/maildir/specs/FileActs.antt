-- What another program does to the file of a message, and what is done before a call.
use Rattle.std.specs.Prelude.{◌≡◌, ℕ, Bool, true, false, List, [], ◌∷◌, Option, None, Some, Result, Ok, Err, find}
use Rattle.device.specs.declared.DeviceFault.{DeviceFault}
use Rattle.device.specs.declared.DeviceFault.TheVariants.{NoMemory}
use Rattle.device.specs.Calls.{Seen}
use Rattle.mailcore.specs.declared.keywords.Keyword.{Keyword}
use Rattle.mailcore.specs.FlagSet.{minus, union}
use Rattle.maildir.specs.declared.folder.File.{File}
use Rattle.maildir.specs.declared.file_acts.FileDeed.{FileDeed}
use Rattle.maildir.specs.declared.file_acts.FileDeed.TheVariants.{Flag, Remove}
use Rattle.maildir.specs.FlaggedNames.{flagged, letters_in}
use Rattle.maildir.specs.Folders.{Stored, name_of_file, removed_file, renamed_file}
use Rattle.maildir.specs.Letters.{flags_in}
use Rattle.maildir.specs.Names.{NameParts, is_one_of, name_of, uid_in}

-- a file whose name has this UID
abbrev pub is_file_of : (uid : ℕ) → File → Bool
is_file_of uid file = is_one_of (uid ∷ []) (uid_in file.name)

-- a name once flags are set and then others cleared; what is no name stays
abbrev pub name_by : List Keyword → (set clear : ℕ) → (name : List ℕ) → Option NameParts → List ℕ
name_by keywords set clear name None = name
name_by keywords set clear name (Some parts) = flagged keywords parts (minus (union (flags_in (letters_in parts)) set) clear)

abbrev pub re_flagged : List Keyword → (set clear : ℕ) → (name : List ℕ) → List ℕ
re_flagged keywords set clear name = name_by keywords set clear name (name_of name)

-- the file gets its new name where it stands, or goes
abbrev pub file_acted : List Keyword → FileDeed → File → Stored → Stored
file_acted keywords (Flag set clear) file s =
    renamed_file (name_of_file file) (record { place = file.place; name = re_flagged keywords set clear file.name }) s
file_acted keywords Remove file s = removed_file (name_of_file file) s

abbrev pub acted_where : List Keyword → FileDeed → Option File → Stored → Stored
acted_where keywords deed None s = s
acted_where keywords deed (Some file) s = file_acted keywords deed file s

-- so it is with the first file that has this UID, if one does
abbrev pub acted : List Keyword → (uid : ℕ) → FileDeed → Stored → Stored
acted keywords uid deed s = acted_where keywords deed (find (is_file_of uid) s.files) s

-- Before a call of a folder that has not stopped others do something: what is stored may change. Or memory ran out, and the call is not made.
abbrev pub CallBegins : Seen Stored → Seen Stored → Result (Unit {0}) DeviceFault → Type 0
CallBegins old new (Ok done) = (new.is_broken ≡ old.is_broken) × (new.stops ≡ old.stops) × (old.is_broken ≡ true → new ≡ old)
CallBegins old new (Err fault) = (fault ≡ NoMemory) × (old.is_broken ≡ false) × (new.is_broken ≡ true) × (new.stops ≡ old.stops)
