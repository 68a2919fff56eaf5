use Rattle.std.proofs.Common.{length, ◌-◌}
use Rattle.sync_state.specs.JournalText.{note_place}
use Rattle.sync_state.specs.Places.{place_at}
use Rattle.book.specs.Changes.{Passed}
use Rattle.book.proofs.changes.first_note_from.Given as goal

abbrev pub invariant-loop-at : goal.invariant-loop-at
invariant-loop-at l = Passed note_place (place_at l.place) l.notes l.at

abbrev pub decreases-loop-at : goal.decreases-loop-at
decreases-loop-at l = length l.notes - l.at
