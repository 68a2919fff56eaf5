use Rattle.law_outcome.proofs.Names.{named_stay, others_are_new}
use Rattle.law_outcome.proofs.maps_move_new_uids.Goals as goal

pub returns-clause-named : goal.returns-clause-named
returns-clause-named c = named_stay

pub returns-clause-others : goal.returns-clause-others
returns-clause-others c = others_are_new
