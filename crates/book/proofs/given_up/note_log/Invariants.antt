use Rattle.book.proofs.GivenUpSteps.{NotesSoFar}
use Rattle.book.proofs.given_up.note_log.Given as goal

abbrev pub invariant-loop-i : goal.invariant-loop-i
invariant-loop-i l = NotesSoFar l.steps l.log l.i l.initial.list.items l.list.items
