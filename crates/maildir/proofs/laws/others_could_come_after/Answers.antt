use Rattle.maildir.proofs.GainLemmas.{renamed_after, placed_after, removed_after, meta_after, copy_after}
use Rattle.maildir.proofs.laws.others_could_come_after.Goals as goal

pub returns-clause-renamed : goal.returns-clause-renamed
returns-clause-renamed c v s m from to there named g = renamed_after v s m g from to there named

pub returns-clause-placed : goal.returns-clause-placed
returns-clause-placed c v s m to named g = placed_after v s m g to named

pub returns-clause-removed : goal.returns-clause-removed
returns-clause-removed c v s m file there g = removed_after v s m g file there

pub returns-clause-meta : goal.returns-clause-meta
returns-clause-meta c v s m text g = meta_after v s m g text

pub returns-clause-copy : goal.returns-clause-copy
returns-clause-copy c v s m bytes g = copy_after v s m g bytes
