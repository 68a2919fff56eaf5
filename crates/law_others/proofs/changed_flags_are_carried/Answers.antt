use Rattle.law_others.proofs.Carrying.{flags_carried}
use Rattle.law_others.proofs.changed_flags_are_carried.Goals as goal

pub returns : goal.returns
returns c = flags_carried
