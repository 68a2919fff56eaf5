use Rattle.std.proofs.Common.{sym, ◌∙◌}
use Rattle.std.proofs.lemmas.Bool.{false≢true}
use Rattle.sync_state.proofs.KnownLines.{no_note_letters}
use Rattle.sync_state.proofs.items.NotePlanItem.of_line.Goals as goal

pub returns-else-has_letters_of_note-clause-none : goal.returns-else-has_letters_of_note-clause-none
returns-else-has_letters_of_note-clause-none c =
    let some = c.in_ok-note.ensures.some in
    no_note_letters c.args.version c.in_ok-note.note c.args.text.now some.0 (λ h. false≢true (sym c.if-has_letters_of_note.false ∙ c.has_letters_of_note.ensures.0 h)) some.1
