use Rattle.run_states.proofs.Found.{as_many_entries, as_many_messages}
use Rattle.run_states.proofs.run_laws.alike_worlds_have_as_many.Goals as goal

pub returns : goal.returns
returns c = record { messages = as_many_messages; entries = as_many_entries }
