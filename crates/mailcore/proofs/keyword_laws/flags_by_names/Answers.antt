use Rattle.mailcore.proofs.KeywordLemmas.{read_again, read_same}
use Rattle.mailcore.proofs.KnownFlags.{read_kept}
use Rattle.mailcore.proofs.keyword_laws.flags_by_names.Goals as goal

pub returns-clause-flags : goal.returns-clause-flags
returns-clause-flags c = read_again

pub returns-clause-same : goal.returns-clause-same
returns-clause-same c = read_same

pub returns-clause-kept : goal.returns-clause-kept
returns-clause-kept c = read_kept
