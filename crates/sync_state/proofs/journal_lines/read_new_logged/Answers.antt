use Rattle.std.proofs.Common.{arith}
use Rattle.sync_state.proofs.StepLemmas.{no_new_logged, if_not_logged, other_number}
use Rattle.sync_state.proofs.journal_lines.read_new_logged.Goals as goal

pub returns-in_err-read-clause-none : goal.returns-in_err-read-clause-none
returns-in_err-read-clause-none c =
    let number = c.args.number in
    if_not_logged _ number c.args.line.now (no_new_logged number c.args.line.now c.if-is_number.ensures (λ copy f. c.in_err-read.ensures.none (record { 0 = number }, copy) (omega arith, f)))

pub returns-else-read-number-clause-none : goal.returns-else-read-number-clause-none
returns-else-read-number-clause-none c =
    let number = c.args.number in
    let some = c.in_ok-read.ensures.some in
    no_new_logged number c.args.line.now c.if-is_number.ensures (λ copy f. other_number c.args.line.now c.in_ok-read.read.0 number c.in_ok-read.uid some.0.0 (omega arith) c.if-read-number.false some.1 copy)
