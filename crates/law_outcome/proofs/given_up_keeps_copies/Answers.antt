use Rattle.law_outcome.proofs.GivenUp.{copies_are_not_new, entries_are_these}
use Rattle.law_outcome.proofs.given_up_keeps_copies.Goals as goal

pub returns-clause-entries : goal.returns-clause-entries
returns-clause-entries c = entries_are_these

pub returns-clause-not_new : goal.returns-clause-not_new
returns-clause-not_new c = copies_are_not_new
