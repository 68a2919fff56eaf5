use Rattle.law_others.proofs.Keeping.{keeps}
use Rattle.law_others.proofs.no_uid_is_given_again.Goals as goal

pub returns : goal.returns
returns c = keeps
