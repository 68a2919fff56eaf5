-- What a folder in memory stores.
use Rattle.std.specs.Prelude.{true, false, [], ◌∷◌, ◌++◌, None}
use Rattle.device.specs.Calls.{Seen}
use Rattle.device.specs.Conditions.{seen_in}
use Rattle.maildir.specs.declared.folder.File.{File}
use Rattle.maildir.specs.Folders.{Stored, without}
use Rattle.maildir.specs.MemFiles.{files_of}
use Rattle.maildir.specs.declared.mem_folder.MemFolder.{MemFolder}

abbrev pub stored_in : MemFolder → Stored
stored_in m = record { is_there = m.is_there; files = files_of m.files; copy = m.copy; meta = m.meta }

-- a folder that is there, without a file
abbrev pub empty : Stored
empty = record { is_there = true; files = []; copy = None; meta = None }

-- the file stands there, in place of one that has its place and name
abbrev pub with_file : File → Stored → Stored
with_file file s = record s { files = without file.place file.name s.files ++ file ∷ [] }

-- the file stands there after the others
abbrev pub with_arrival : File → Stored → Stored
with_arrival file s = record s { files = s.files ++ file ∷ [] }

-- `cur`, `new` and `tmp` are not there
abbrev pub hidden : Stored → Stored
hidden s = record s { is_there = false }

abbrev pub seen_of : MemFolder → Seen Stored
seen_of m = seen_in (stored_in m) m.stopping
