use Rattle.maildir.proofs.IndexLemmas.{found_in_reordered}
use Rattle.maildir.proofs.name_index.reserve_spot.Goals as goal

pub returns-clause-same : goal.returns-clause-same
returns-clause-same c = found_in_reordered c.args.spots.now c.reserve.new.self c.reserve.ensures.entries.2
