use Rattle.mailcore.proofs.KnownLemmas.{known-more, on_ok}
use Rattle.mailcore.proofs.marks.know.Goals as goal

pub returns-clause-known : goal.returns-clause-known
returns-clause-known c =
    let updates = on_ok _ _ (c.insert.ensures.succeeds c.requires.room) c.insert.ensures.updates in
    known-more _ _ _ updates.0
