-- The book of an outside as the clauses of its calls name it.
use Rattle.std.specs.Prelude.{Bool, true, false, not, Option, None, Some, Result}
use Rattle.device.specs.Calls.{Seen}
use Rattle.rules.specs.declared.state.SyncState.{SyncState}
use Rattle.book.specs.declared.book.Pending.{Pending}
use Rattle.book.specs.declared.shelf.Shelf as shelf
use Rattle.book.specs.Shelves.{Files}
use Rattle.outside.specs.declared.fault.OutsideFault.{OutsideFault}
use Rattle.run_pair.specs.Stops.{Standing, StopsSo}
use Rattle.run_pair.specs.declared.book_part.BookPart.{BookPart}
use Rattle.run_pair.specs.Kept.{Kept}

-- what was read, of a book that is open
abbrev pub kept_in : (is_open : Bool) → SyncState → Pending → Option Kept
kept_in true state pending = Some (record { state = state; pending = pending })
kept_in false state pending = None

-- whether calls go on: an open book has not failed, the shelf of a closed one is whole
abbrev pub goes_on : (is_open is_ready is_broken : Bool) → Bool
goes_on true is_ready is_broken = is_ready
goes_on false is_ready is_broken = not is_broken

module _ {S : Type 0} {shelves : shelf.Ghosts S} where
  -- what is seen of its shelf
  abbrev pub seen_of : BookPart S shelves → Seen Files
  seen_of part = shelves.seen part.book.shelf

  -- its shelf has given back what was written so far
  abbrev pub honest_in : BookPart S shelves → Type 0
  honest_in part = shelves.honest part.book.shelf

  -- the files of its shelf
  abbrev pub files_of : BookPart S shelves → Files
  files_of part = (seen_of part).stored

  -- what was read of them
  abbrev pub kept_of : BookPart S shelves → Option Kept
  kept_of part = kept_in part.is_open part.book.state part.book.pending

  -- the part between two calls, as far as its stops go
  abbrev pub standing_of : BookPart S shelves → Standing
  standing_of part = record { is_ready = goes_on part.is_open part.book.is_ready (seen_of part).is_broken; stops = (seen_of part).stops }

  -- a call stops only where a call of the shelf stopped in it, or the part had failed before
  abbrev pub Stops : {T : Type 0} → (old new : BookPart S shelves) → Result T OutsideFault → Type 0
  Stops old new result = StopsSo (standing_of old) (standing_of new) result
