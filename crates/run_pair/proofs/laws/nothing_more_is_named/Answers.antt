use Rattle.run_pair.proofs.NamingLemmas.{named_highest, same_entries, same_validity}
use Rattle.run_pair.proofs.laws.nothing_more_is_named.Goals as goal

pub returns-clause-validity : goal.returns-clause-validity
returns-clause-validity c = same_validity

pub returns-clause-highest : goal.returns-clause-highest
returns-clause-highest c = named_highest

pub returns-clause-entries : goal.returns-clause-entries
returns-clause-entries c = same_entries
