use Rattle.std.proofs.Common.{◌<◌, ◌≤◌, ◌+◌, List, length, ap, arith}
use Rattle.std.proofs.lemmas.Bool.Decides.{nat_tests}
use Rattle.sync_state.specs.declared.journal.Logged.{Logged}
use Rattle.runner.proofs.NextSteps.{next_none, next_some}
use Rattle.runner.proofs.pending.next_step.Goals as goal

pub returns-in_err-step : goal.returns-in_err-step
returns-in_err-step g c =
    let j = c.in_ok-journal.journal.now in
    let found = rw (c.as_slice-logged.ensures, c.as_slice.ensures) at c.in_err-step.ensures.lookup in
    let past : length j.plan.steps ≤ length j.log = grind (arith, nat_tests, found.0) in
    rw c.from_residual-in_err-step.ensures (next_none (g.O.Outside.opened c.args.outside.now) j c.in_ok-journal.ensures past)

pub returns : goal.returns
returns g c =
    let j = c.in_ok-journal.journal.now in
    let found = rw (c.as_slice-logged.ensures, c.as_slice.ensures) at c.in_ok-step.ensures.lookup in
    let less : length j.log < length j.plan.steps = grind (arith, nat_tests, found.0) in
    next_some (g.O.Outside.opened c.args.outside.now) j _ _ c.in_ok-step.field-0.now c.in_ok-journal.ensures less found.1 (ap (λ (l : List Logged). length l + 1) c.as_slice-logged.ensures)
