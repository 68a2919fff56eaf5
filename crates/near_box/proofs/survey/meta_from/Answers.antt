use Rattle.near_box.proofs.NewUidLemmas.{spelled_numbers}
use Rattle.near_box.proofs.survey.meta_from.Goals as goal

pub returns-in-Some-clause-numbers : goal.returns-in-Some-clause-numbers
returns-in-Some-clause-numbers c = spelled_numbers _ c.read.result c.read.ensures.value
