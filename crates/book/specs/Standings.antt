-- A book and its shelf as the clauses of its calls name them.
use Rattle.std.specs.Prelude.{Result}
use Rattle.device.specs.Calls.{Seen}
use Rattle.sync_state.specs.declared.fault.BookFault.{BookFault}
use Rattle.book.specs.declared.book.Book.{Book}
use Rattle.book.specs.declared.book.Pending.{Pending}
use Rattle.book.specs.declared.shelf.Shelf as shelf
use Rattle.book.specs.Books.{Standing, Leaves}
use Rattle.book.specs.Shelves.{Files}

module _ {S : Type 0} {shelves : shelf.Ghosts S} where
  -- what is seen of its shelf
  abbrev pub seen_in : Book S shelves → Seen Files
  seen_in book = shelves.seen book.shelf

  -- the files on its shelf
  abbrev pub files_in : Book S shelves → Files
  files_in book = (seen_in book).stored

  -- the book between two calls
  abbrev pub standing : Book S shelves → Standing
  standing book = record { is_ready = book.is_ready; shelf = seen_in book }

  -- what a call leaves that replaces a journal by another
  abbrev pub LeavesJournal : {T : Type 0} → (from to part : Pending) → (old new : Book S shelves) → Result T BookFault → Type 0
  LeavesJournal from to part old new result = Leaves from to part (files_in old) (files_in new) result
