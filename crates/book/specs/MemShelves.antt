-- A shelf in memory, as its calls are seen.
use Rattle.std.specs.Prelude.{None}
use Rattle.device.specs.Calls.{Seen}
use Rattle.device.specs.Conditions.{seen_in}
use Rattle.book.specs.declared.mem_shelf.MemShelf.{MemShelf}
use Rattle.book.specs.Shelves.{Files, bytes_of}

-- no file
abbrev pub empty : Files
empty = record { state = None; journal = None }

abbrev pub files_of : MemShelf → Files
files_of m = record { state = bytes_of m.state; journal = bytes_of m.journal }

abbrev pub seen_of : MemShelf → Seen Files
seen_of m = seen_in (files_of m) m.stopping
