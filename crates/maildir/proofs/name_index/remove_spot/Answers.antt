use Rattle.std.proofs.Common.{None}
use Rattle.maildir.proofs.IndexLemmas.{found_in_updated}
use Rattle.maildir.proofs.name_index.remove_spot.Goals as goal

pub returns-clause-gone : goal.returns-clause-gone
returns-clause-gone c = found_in_updated c.args.spots.now c.remove.new.self c.args.name.now None c.remove.ensures.updates
