use Rattle.sync_state.specs.JournalText.{note_line}
use Rattle.sync_state.proofs.LineLemmas.{next_written}
use Rattle.sync_state.proofs.journal_text.push_notes.Goals as goal

pub loop-note-preserved : goal.loop-note-preserved
loop-note-preserved c =
    next_written note_line c.args.notes.now c.loop-note.note-index c.note-item.result c.args.text.now.items c.loop-note.text.items c.push_note.new.text.items
    c.loop-note-test.true c.note-item.is c.loop-note.invariant c.in_ok-push_note.ensures
