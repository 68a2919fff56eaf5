use Rattle.mailcore.proofs.KnownFlags.{minus-within, named-within, union-within}
use Rattle.mailcore.proofs.keyword_laws.sets_within.Goals as goal

pub returns-clause-named : goal.returns-clause-named
returns-clause-named c = named-within

pub returns-clause-union : goal.returns-clause-union
returns-clause-union c = union-within

pub returns-clause-minus : goal.returns-clause-minus
returns-clause-minus c = minus-within
