use Rattle.maildir.proofs.NameLemmas.{name_is_spelled, spelled_is_read}
use Rattle.maildir.proofs.laws.names_by_their_spelling.Goals as goal

pub returns-clause-spelled : goal.returns-clause-spelled
returns-clause-spelled c = name_is_spelled

pub returns-clause-read : goal.returns-clause-read
returns-clause-read c = spelled_is_read
