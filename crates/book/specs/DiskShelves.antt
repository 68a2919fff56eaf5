-- A shelf on a disk, as its calls are seen: what it stores is read off the record of the calls on its two files.
use Rattle.std.specs.Prelude.{ℕ, List}
use Rattle.device.specs.Calls.{Seen}
use Rattle.device.specs.Conditions.{seen_in}
use Rattle.device.specs.OwnFiles.{FilesParts, held}
use Rattle.book.specs.declared.disk_shelf.TheConstants.{STATE, JOURNAL}
use Rattle.book.specs.declared.shelf.ShelfFile.{ShelfFile}
use Rattle.book.specs.declared.shelf.ShelfFile.TheVariants.{State, Journal}
use Rattle.book.specs.Shelves.{Files}

abbrev pub file_name : ShelfFile → List ℕ
file_name State = STATE.now
file_name Journal = JOURNAL.now

-- what the two files hold; other files beside them are no part of the shelf
abbrev pub files_on : FilesParts → Files
files_on f = record { state = held f (file_name State); journal = held f (file_name Journal) }

abbrev pub seen_on_disk : FilesParts → Seen Files
seen_on_disk f = seen_in (files_on f) f.disk.condition
