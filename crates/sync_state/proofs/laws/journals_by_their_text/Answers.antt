use Rattle.sync_state.proofs.KnownJournals.{written_known}
use Rattle.sync_state.proofs.laws.journals_by_their_text.Goals as goal

pub returns : goal.returns
returns c = written_known
