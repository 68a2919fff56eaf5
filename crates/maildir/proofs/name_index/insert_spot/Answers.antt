use Rattle.std.proofs.Common.{Some}
use Rattle.maildir.proofs.IndexLemmas.{found_in_updated}
use Rattle.maildir.proofs.name_index.insert_spot.Goals as goal

pub returns : goal.returns
returns c = found_in_updated c.args.spots.now c.insert.new.self c.args.name.items (Some c.args.spot) c.in-Ok.ensures.updates
