use Rattle.std.proofs.Common.{refl}
use Rattle.sync_state.proofs.LogLemmas.{fits_nowhere, logged_some, logged_none}
use Rattle.sync_state.proofs.journal_read.next_logged.Goals as goal

pub returns-then-count-steps-clause-some : goal.returns-then-count-steps-clause-some
returns-then-count-steps-clause-some c =
    logged_some _ c.args.steps.now c.args.count _ c.index-steps-count.result c.args.line.now c.if-count-steps.true c.index-steps-count.is refl c.read_logged.ensures.some

pub returns-then-count-steps-clause-none : goal.returns-then-count-steps-clause-none
returns-then-count-steps-clause-none c =
    logged_none _ c.args.steps.now c.args.count _ c.index-steps-count.result c.args.line.now c.if-count-steps.true c.index-steps-count.is refl c.read_logged.ensures.none

pub returns-else-count-steps-clause-none : goal.returns-else-count-steps-clause-none
returns-else-count-steps-clause-none c = λ l f e. fits_nowhere c.args.steps.now c.args.count l c.if-count-steps.false f
