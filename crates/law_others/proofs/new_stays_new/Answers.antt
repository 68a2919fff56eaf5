use Rattle.law_others.proofs.Staying.{stays_new}
use Rattle.law_others.proofs.new_stays_new.Goals as goal

pub returns : goal.returns
returns c = stays_new
