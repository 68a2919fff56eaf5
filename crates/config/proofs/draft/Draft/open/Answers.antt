use Rattle.config.proofs.draft.Draft.open.Goals as goal

pub returns-clause-lines : goal.returns-clause-lines
returns-clause-lines c = λ last are. (are.0, c.new.ensures.lines last)
