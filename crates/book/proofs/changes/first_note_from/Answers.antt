use Rattle.std.proofs.Common.{◌≡◌, false, subst, rules}
use Rattle.std.proofs.lemmas.List.{get_or_read}
use Rattle.rules.specs.declared.plan.Note.{Note}
use Rattle.sync_state.specs.JournalText.{bottom, is_below, note_place}
use Rattle.sync_state.specs.Places.{place_at}
use Rattle.book.proofs.ChangeLemmas.{reached_from}
use Rattle.book.proofs.PlacedLemmas.{parted, rising_from}
use Rattle.book.proofs.changes.first_note_from.Goals as goal

pub returns-else-is_below : goal.returns-else-is_below
returns-else-is_below c =
    let ns = c.args.notes.now in
    let k = place_at c.args.place in
    let here : is_below (note_place c.index-notes-at.result) k ≡ false = search rules in
    reached_from note_place k ns c.loop-at.at (parted note_place k ns (rising_from note_place bottom ns c.requires.rise)) c.loop-at.invariant (λ within d.
    subst (λ (n : Note). is_below (note_place n) k ≡ false) (get_or_read ns c.loop-at.at c.index-notes-at.result within c.index-notes-at.is d) here)
