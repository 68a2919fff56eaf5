use Rattle.std.proofs.Common.{◌≡◌, ◌∙◌, rules, subst, sym}
use Rattle.config.specs.declared.section.Section.{Section}
use Rattle.config.specs.declared.section.Section.TheVariants.{Between}
use Rattle.config.specs.Readings.{SectionLines}
use Rattle.config.proofs.draft.Draft.end_section.Goals as goal

pub returns-clause-lines : goal.returns-clause-lines
returns-clause-lines c = λ last are.
    let between : c.replace-section.new.dest ≡ Between = search rules in
    (c.put.ensures.lines last (search rules) are.0, subst (λ (s : Section). SectionLines last s) (sym (c.put.ensures.section ∙ between)) tt)
