use Rattle.mailcore.proofs.KnownFlags.{has-known, known-lt, known-within}
use Rattle.mailcore.proofs.keyword_laws.known_flags.Goals as goal

pub returns-clause-flags : goal.returns-clause-flags
returns-clause-flags c = has-known

pub returns-clause-set : goal.returns-clause-set
returns-clause-set c = known-lt

pub returns-clause-within : goal.returns-clause-within
returns-clause-within c = known-within
