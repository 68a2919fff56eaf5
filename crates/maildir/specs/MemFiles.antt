-- Files in memory, and the room among them.
use Rattle.std.specs.Prelude.{◌<◌, List, vec_len, vec_capacity}
use Rattle.maildir.specs.declared.folder.File.{File}
use Rattle.maildir.specs.declared.mem_files.MemFiles.{MemFiles}
use Rattle.maildir.specs.NameIndexes.{HasRoom}
use Rattle.maildir.specs.Slots.{files_in}

-- the files, in the order in which they came
abbrev pub files_of : MemFiles → List File
files_of m = files_in m.slots.items

-- one more file fits
abbrev pub HasSpace : MemFiles → Type 0
HasSpace m = (vec_len m.slots < vec_capacity m.slots) × HasRoom m.index
