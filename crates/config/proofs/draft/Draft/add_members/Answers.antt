use Rattle.std.proofs.Common.{subst}
use Rattle.config.specs.declared.section.Section.{Section}
use Rattle.config.specs.Readings.{SectionLines}
use Rattle.config.proofs.draft.Draft.add_members.Goals as goal

pub returns-in_err-add-clause-lines : goal.returns-in_err-add-clause-lines
returns-in_err-add-clause-lines c = λ last line are.
    (are.0, c.add.ensures.lines last line (subst (λ (s : Section). SectionLines last s) c.in-Group.is are.1))

pub returns-in_ok-add-clause-lines : goal.returns-in_ok-add-clause-lines
returns-in_ok-add-clause-lines c = λ last line are.
    (are.0, c.add.ensures.lines last line (subst (λ (s : Section). SectionLines last s) c.in-Group.is are.1))
