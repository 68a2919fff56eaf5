use Rattle.std.proofs.Common.{◌≡◌, ◌++◌, map, take}
use Rattle.sync_state.specs.Lines.{lines_text}
use Rattle.sync_state.specs.JournalText.{note_line}
use Rattle.sync_state.proofs.journal_text.push_notes.Given as goal

abbrev pub invariant-loop-note : goal.invariant-loop-note
invariant-loop-note l = l.text.items ≡ l.initial.text.items ++ lines_text (map note_line (take l.note-index l.notes))
