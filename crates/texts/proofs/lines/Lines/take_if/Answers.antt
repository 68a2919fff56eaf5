use Rattle.std.proofs.Common.{arith}
use Rattle.texts.proofs.LineLemmas.{line_is, line_taken, no_line_end, other_start}
use Rattle.texts.proofs.lines.Lines.take_if.Goals as goal

pub returns-in_err-following-clause-missing : goal.returns-in_err-following-clause-missing
returns-in_err-following-clause-missing c =
    other_start _ c.args.start.now c.args.self.now.rest.now c.in_err-following.ensures.cases

pub returns-in_err-text-clause-missing : goal.returns-in_err-text-clause-missing
returns-in_err-text-clause-missing c =
    no_line_end _ c.args.start.now c.args.self.now.rest.now c.in_ok-following.following.now c.in_ok-following.ensures.cases.1 c.in_err-text.ensures.sides

pub returns-clause-line : goal.returns-clause-line
returns-clause-line c =
    line_is _ _ _ _ _ c.in_ok-following.ensures.cases.0 c.in_ok-following.ensures.cases.1 c.in_ok-text.ensures.sides.0 c.in_ok-text.ensures.sides.1

pub returns-clause-count : goal.returns-clause-count
returns-clause-count c =
    let is = line_is c.args.start.now c.args.self.now.rest.now c.in_ok-following.following.now c.in_ok-text.text.now c.in_ok-text.rest.now c.in_ok-following.ensures.cases.0 c.in_ok-following.ensures.cases.1 c.in_ok-text.ensures.sides.0 c.in_ok-text.ensures.sides.1 in
    let h = line_taken _ _ _ _ is in
    omega arith
