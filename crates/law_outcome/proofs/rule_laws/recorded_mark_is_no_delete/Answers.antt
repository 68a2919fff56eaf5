use Rattle.law_outcome.proofs.RecordedMarks.{recorded_mark}
use Rattle.law_outcome.proofs.rule_laws.recorded_mark_is_no_delete.Goals as goal

pub returns : goal.returns
returns c = recorded_mark
