use Rattle.config.proofs.draft.Draft.set.Goals as goal

pub returns-in-Section-clause-lines : goal.returns-in-Section-clause-lines
returns-in-Section-clause-lines c = λ last line are. c.set_name.ensures.lines last are

pub returns-in_ok-add_members-in-Group-clause-lines : goal.returns-in_ok-add_members-in-Group-clause-lines
returns-in_ok-add_members-in-Group-clause-lines c = λ last line are.
    c.set_name-in-Group.ensures.lines last (c.add_members.ensures.lines last line are)

pub returns-in-Far-clause-lines : goal.returns-in-Far-clause-lines
returns-in-Far-clause-lines c = λ last line are. c.set_far.ensures.lines last are

pub returns-in-Near-clause-lines : goal.returns-in-Near-clause-lines
returns-in-Near-clause-lines c = λ last line are. c.set_near.ensures.lines last are

pub returns-in_default-clause-lines : goal.returns-in_default-clause-lines
returns-in_default-clause-lines c = λ last line are. c.set_in_section.ensures.lines last are
