use Rattle.std.proofs.Common.{◌∙◌, sym}
use Rattle.std.proofs.lemmas.Option.{MatchOption-at_some, MatchOption-at_none}
use Rattle.book.proofs.ChangeLemmas.{recorded_at, recorded_past}
use Rattle.book.proofs.committed.recorded.Goals as goal

pub returns-in-Some : goal.returns-in-Some
returns-in-Some c =
    let at = MatchOption-at_some _ _ c.in-Some.note c.in-Some.is c.get.ensures.lookup.3 in
    c.recorded_by.ensures ∙ sym (recorded_at c.args.entry.now c.args.notes.now c.args.at c.requires.rise c.requires.reached c.in-Some.note.now at.0 (at.1 c.in-Some.note.now))

pub returns-in-None : goal.returns-in-None
returns-in-None c =
    let past = MatchOption-at_none _ _ c.in-None.is c.get.ensures.lookup.3 in
    sym (recorded_past c.args.entry.now c.args.notes.now c.args.at c.requires.rise c.requires.reached past)
