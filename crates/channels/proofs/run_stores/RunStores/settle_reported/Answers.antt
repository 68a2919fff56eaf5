use Rattle.channels.proofs.LendLemmas.{Lends-then}
use Rattle.channels.proofs.run_stores.RunStores.settle_reported.Goals as goal

-- it was asked what stopped the run
pub returns-in-Err-clause-lent : goal.returns-in-Err-clause-lent
returns-in-Err-clause-lent g c = Lends-then c.in-Err.ensures.lent c.explained.ensures.lent
