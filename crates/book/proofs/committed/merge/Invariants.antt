use Rattle.std.proofs.Common.{ℕ, ◌≡◌, ◌≤◌, ◌<◌, ◌++◌, get_or, length, take}
use Rattle.rules.specs.declared.entry.Entry.{Entry}
use Rattle.book.specs.Changes.{HasPassed}
use Rattle.book.specs.Committed.{kept_entries}
use Rattle.book.proofs.committed.merge.Given as goal

abbrev pub invariant-loop-entry : goal.invariant-loop-entry
invariant-loop-entry l =
    (l.list.items ≡ l.initial.list.items ++ kept_entries l.journal (take l.entry-index l.entries))
    × ((j : ℕ) (d : Entry) → l.entry-index ≤ j → j < length l.entries → HasPassed l.journal l.gones (get_or l.entries j d) l.walk)
