use Rattle.std.proofs.Common.{◌≡◌, ◌∙◌, ℕ, List, true, false, subst, sym}
use Rattle.config_words.specs.declared.keyword.LinePlace.{LinePlace}
use Rattle.config.specs.Accepted.{AcceptsWords, IsAccepted}
use Rattle.config.specs.Drafts.{standing_of}
use Rattle.config.specs.Outlines.{IsAfterWords, IsOutlined}
use Rattle.config.specs.Standing.{outlined}
use Rattle.config.specs.Configurations.{ended, parted, parted_words}
use Rattle.config.specs.Meant.{Knows, Took, TookLine}
use Rattle.std.specs.Prelude.{Option, None, Some}
use Rattle.config.proofs.PartedLemmas.{blank_parted, knows_also, words_parted}
use Rattle.config.proofs.ViewLemmas.{at_drawn}
use Rattle.config.proofs.ReadingLemmas.{blank_line, comment_line, on_ok, on_ok_so, words_line}
use Rattle.config.proofs.reading.Reading.read.Goals as goal

pub returns-in-Empty-clause-outlined : goal.returns-in-Empty-clause-outlined
returns-in-Empty-clause-outlined c = λ o is counted.
    on_ok c.end_section.result (IsOutlined (outlined o c.args.line.text.now) c.end_section.new.self)
    (blank_line o c.args.line.text.now c.args.self.now c.end_section.new.self c.in-Empty.ensures is c.end_section.ensures.standing
    (c.end_section.ensures.reported o.again is.reported))

pub returns-in-Comment-clause-outlined : goal.returns-in-Comment-clause-outlined
returns-in-Comment-clause-outlined c = λ o is counted.
    comment_line o c.args.line.text.now c.args.self.now c.in-Comment.ensures.0 c.in-Comment.ensures.1 is

pub returns-in-Words-clause-outlined : goal.returns-in-Words-clause-outlined
returns-in-Words-clause-outlined c = λ o is counted.
    let words : List ℕ × List ℕ = (c.in-Words.keyword.now, c.in-Words.arguments.now) in
    on_ok_so c.read_words.result (IsAfterWords o words c.args.line.number c.read_words.new.self)
    (IsOutlined (outlined o c.args.line.text.now) c.read_words.new.self)
    (words_line o c.args.line.text.now words c.args.line.number c.read_words.new.self c.in-Words.ensures.0 c.in-Words.ensures.1 counted)
    (c.read_words.ensures.outlined o is)

pub returns-in-Empty-clause-meant : goal.returns-in-Empty-clause-meant
returns-in-Empty-clause-meant c = λ p knows.
    let line = c.args.line.text.now in
    let new = c.end_section.new.self in
    on_ok_so c.end_section.result (Knows (ended p) new) (Knows (parted p line) new)
    (knows_also (parted p line) (ended p) new (blank_parted p line c.in-Empty.ensures)) (c.end_section.ensures.meant p knows)

pub returns-in-Comment-clause-meant : goal.returns-in-Comment-clause-meant
returns-in-Comment-clause-meant c = λ p knows.
    let line = c.args.line.text.now in
    knows_also (parted p line) p c.args.self.now (words_parted p line None c.in-Comment.ensures.0 c.in-Comment.ensures.1) knows

pub returns-in-Words-clause-meant : goal.returns-in-Words-clause-meant
returns-in-Words-clause-meant c = λ p knows.
    let line = c.args.line.text.now in
    let words : List ℕ × List ℕ = (c.in-Words.keyword.now, c.in-Words.arguments.now) in
    let new = c.read_words.new.self in
    on_ok_so c.read_words.result (Knows (parted_words (Some words) p) new) (Knows (parted p line) new)
    (knows_also (parted p line) (parted_words (Some words) p) new (words_parted p line (Some words) c.in-Words.ensures.0 c.in-Words.ensures.1))
    (c.read_words.ensures.meant p knows)

pub returns-in-Empty-clause-took : goal.returns-in-Empty-clause-took
returns-in-Empty-clause-took c = λ p knows.
    on_ok c.end_section.result (TookLine p c.args.line.text.now c.args.self.now c.end_section.new.self)
    (λ none. (c.end_section.ensures.none none, λ some. let both : false ≡ true = sym some ∙ c.in-Empty.ensures in cc))

pub returns-in-Comment-clause-took : goal.returns-in-Comment-clause-took
returns-in-Comment-clause-took c = λ p knows none.
    (none, λ some. subst (λ (w : Option (List ℕ × List ℕ)). AcceptsWords p.current.kind w) (sym c.in-Comment.ensures.1) tt)

pub returns-in-Words-clause-took : goal.returns-in-Words-clause-took
returns-in-Words-clause-took c = λ p knows.
    let words : List ℕ × List ℕ = (c.in-Words.keyword.now, c.in-Words.arguments.now) in
    let old = c.args.self.now in
    let new = c.read_words.new.self in
    on_ok_so c.read_words.result (Took (standing_of old.draft).at words old new) (TookLine p c.args.line.text.now old new)
    (λ took none.
    let here = took none in (
      here.0,
      λ some.
          subst (λ (w : Option (List ℕ × List ℕ)). AcceptsWords p.current.kind w) (sym c.in-Words.ensures.1)
          (subst (λ (at : LinePlace). IsAccepted at words) (at_drawn p old.draft (knows here.0).draft) here.1),
    ))
    c.read_words.ensures.took
