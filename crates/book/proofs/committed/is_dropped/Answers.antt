use Rattle.std.proofs.lemmas.Option.{MatchOption-at_some, MatchOption-at_none}
use Rattle.std.proofs.Common.{◌∙◌, sym}
use Rattle.sync_state.specs.JournalText.{bottom, note_place}
use Rattle.book.specs.Committed.{drops}
use Rattle.book.specs.PlacedLists.{entry_place}
use Rattle.book.proofs.ChangeLemmas.{drop_place}
use Rattle.book.proofs.PlacedLemmas.{none_stands, one_stands, rising_from}
use Rattle.book.proofs.committed.is_dropped.Goals as goal

pub returns-in-Some : goal.returns-in-Some
returns-in-Some c =
    let e = c.args.entry.now in
    let ns = c.args.notes.now in
    let at = MatchOption-at_some _ _ c.in-Some.note c.in-Some.is c.get.ensures.lookup.3 in
    let r = c.requires.reached in
    c.drops.ensures ∙ sym (one_stands note_place (entry_place e) ns c.args.at (rising_from note_place bottom ns c.requires.rise) r.0 r.1 (drops e) (drop_place e) c.in-Some.note.now at.0 (at.1 c.in-Some.note.now))

pub returns-in-None : goal.returns-in-None
returns-in-None c =
    let e = c.args.entry.now in
    let ns = c.args.notes.now in
    let past = MatchOption-at_none _ _ c.in-None.is c.get.ensures.lookup.3 in
    let r = c.requires.reached in
    sym (none_stands note_place (entry_place e) ns c.args.at (rising_from note_place bottom ns c.requires.rise) r.0 r.1 (drops e) (drop_place e) past)
