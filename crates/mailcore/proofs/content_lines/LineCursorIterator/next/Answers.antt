use Rattle.std.proofs.Common.{◌<◌, length, ap, rules}
use Rattle.mailcore.proofs.LineLemmas.{lines_left_found, lines_left_not_found}
use Rattle.mailcore.proofs.content_lines.LineCursorIterator.next.Goals as goal

pub returns-in-Some-clause-steps : goal.returns-in-Some-clause-steps
returns-in-Some-clause-steps c =
    let found = lines_left_found c.args.self.now.rest.now c.in-Some.end c.in-Some.ensures in
    rw c.without_last_crs-text.ensures found

pub returns-in-Some-clause-goes : goal.returns-in-Some-clause-goes
returns-in-Some-clause-goes c =
    let shorter = ap length (lines_left_found c.args.self.now.rest.now c.in-Some.end c.in-Some.ensures) in
    search rules

pub returns-in-None-clause-steps : goal.returns-in-None-clause-steps
returns-in-None-clause-steps c =
    let some : 0 < length c.args.self.now.rest.now = search rules in
    lines_left_not_found c.args.self.now.rest.now some c.in-None.ensures

pub returns-in-None-clause-goes : goal.returns-in-None-clause-goes
returns-in-None-clause-goes c =
    let some : 0 < length c.args.self.now.rest.now = search rules in
    let shorter = ap length (lines_left_not_found c.args.self.now.rest.now some c.in-None.ensures) in
    search rules
