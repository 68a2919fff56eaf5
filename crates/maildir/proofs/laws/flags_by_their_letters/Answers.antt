use Rattle.maildir.proofs.LetterLemmas.{flags_in-lt, flags_in-own, has-flags_in}
use Rattle.maildir.proofs.laws.flags_by_their_letters.Goals as goal

pub returns-clause-flags : goal.returns-clause-flags
returns-clause-flags c = has-flags_in

pub returns-clause-set : goal.returns-clause-set
returns-clause-set c = flags_in-lt

pub returns-clause-same : goal.returns-clause-same
returns-clause-same c = flags_in-own
