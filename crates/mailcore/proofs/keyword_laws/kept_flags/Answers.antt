use Rattle.mailcore.proofs.KnownFlags.{has-kept, kept-minus, kept-same, kept-union, kept-within}
use Rattle.mailcore.proofs.keyword_laws.kept_flags.Goals as goal

pub returns-clause-flags : goal.returns-clause-flags
returns-clause-flags c = has-kept

pub returns-clause-within : goal.returns-clause-within
returns-clause-within c = kept-within

pub returns-clause-same : goal.returns-clause-same
returns-clause-same c = kept-same

pub returns-clause-union : goal.returns-clause-union
returns-clause-union c = kept-union

pub returns-clause-minus : goal.returns-clause-minus
returns-clause-minus c = kept-minus
