use Rattle.law_outcome.proofs.FoundAgain.{admitted_is_opening, found_is_opening}
use Rattle.law_outcome.proofs.FoundSettled.{found_settles}
use Rattle.law_outcome.proofs.runs_follow_one_another.Goals as goal

pub returns-clause-admitted : goal.returns-clause-admitted
returns-clause-admitted c = admitted_is_opening

pub returns-clause-found : goal.returns-clause-found
returns-clause-found c = found_is_opening

pub returns-clause-settles : goal.returns-clause-settles
returns-clause-settles c = found_settles
