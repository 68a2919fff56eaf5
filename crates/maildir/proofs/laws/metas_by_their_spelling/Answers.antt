use Rattle.maildir.proofs.MetaLemmas.{meta_is_spelled, spelled_meta_is_read}
use Rattle.maildir.proofs.laws.metas_by_their_spelling.Goals as goal

pub returns-clause-spelled : goal.returns-clause-spelled
returns-clause-spelled c = meta_is_spelled

pub returns-clause-read : goal.returns-clause-read
returns-clause-read c = spelled_meta_is_read
