use Rattle.law_outcome.proofs.HalfEntries.{half_entry_is_left}
use Rattle.law_outcome.proofs.rule_laws.half_entry_is_left.Goals as goal

pub returns : goal.returns
returns c = half_entry_is_left
