use Rattle.run_states.proofs.Waited.{waiting_are_copied, waiting_are_planned, waiting_are_read}
use Rattle.run_states.proofs.run_laws.files_that_waited_are_read.Goals as goal

pub returns-clause-planned : goal.returns-clause-planned
returns-clause-planned c = waiting_are_planned

pub returns-clause-read : goal.returns-clause-read
returns-clause-read c = waiting_are_read

pub returns-clause-copied : goal.returns-clause-copied
returns-clause-copied c = waiting_are_copied
