use Rattle.std.proofs.Common.{arith}
use Rattle.sync_state.proofs.StepLemmas.{number_is}
use Rattle.sync_state.proofs.journal_lines.is_number.Goals as goal

pub returns-in-Some : goal.returns-in-Some
returns-in-Some c = number_is c.args.line.now c.args.start.now c.in-Some.read.0 c.args.number c.in-Some.ensures.some.0 (omega arith) c.in-Some.ensures.some.1

pub returns-in-None : goal.returns-in-None
returns-in-None c = c.in-None.ensures.none (record { 0 = c.args.number }) (omega arith)
