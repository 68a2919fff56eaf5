use Rattle.std.proofs.Common.{refl, rules}
use Rattle.run_trial.proofs.read.add_journal.Goals as goal

pub returns-clause-adds : goal.returns-clause-adds
returns-clause-adds c = record { bytes = c.in_ok-read_bytes.field-0; says = c.in_ok-read_bytes.ensures.bytes; first = search rules; now = refl }
