use Rattle.std.proofs.Common.{◌<◌, ℕ, List, length, ◌∙◌, ap, arith}
use Rattle.std.proofs.lemmas.Grind.{common_steps}
use Rattle.texts.specs.Lines.{lines_of}
use Rattle.texts.proofs.LineLemmas.{first_line, only_line}
use Rattle.texts.proofs.lines.Lines.next_or_last.Goals as goal

pub returns-in_default-clause-line : goal.returns-in_default-clause-line
returns-in_default-clause-line c =
    let some : 0 < length c.args.self.now.rest.now = grind (arith, common_steps) in
    only_line c.args.self.now.rest.now c.in_default.ensures.sides some

pub returns-clause-line : goal.returns-clause-line
returns-clause-line c =
    ap (λ (t : List ℕ). lines_of t) c.in-Some.ensures.sides.0 ∙ first_line c.in-Some.text.now c.in-Some.rest.now c.in-Some.ensures.sides.1
