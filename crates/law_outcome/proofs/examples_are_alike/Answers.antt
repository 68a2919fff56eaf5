use Rattle.law_outcome.proofs.Example.{late_is_alike, cleaned_is_alike}
use Rattle.law_outcome.proofs.examples_are_alike.Goals as goal

pub returns-clause-late : goal.returns-clause-late
returns-clause-late c = late_is_alike

pub returns-clause-cleaned : goal.returns-clause-cleaned
returns-clause-cleaned c = cleaned_is_alike
