use Rattle.mailcore.proofs.PatternLemmas.{row_decides}
use Rattle.mailcore.proofs.PatternRowLemmas.{first_of_row}
use Rattle.mailcore.proofs.mailbox_pattern.matches.Goals as goal

pub returns-clause-matched : goal.returns-clause-matched
returns-clause-matched c = row_decides c.args.pattern.now c.args.name.now c.fill_row.new.row c.fill_row.ensures

pub returns-clause-computed : goal.returns-clause-computed
returns-clause-computed c = first_of_row c.args.pattern.now c.args.name.now c.fill_row.new.row c.fill_row.ensures
