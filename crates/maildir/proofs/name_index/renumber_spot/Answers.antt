use Rattle.std.proofs.Common.{sym, rules}
use Rattle.maildir.proofs.IndexLemmas.{found_in_renumbered}
use Rattle.maildir.proofs.name_index.renumber_spot.Goals as goal

pub returns-in-Some-clause-moved : goal.returns-in-Some-clause-moved
returns-in-Some-clause-moved c =
    found_in_renumbered c.args.spots.now (c.get_mut.follows.lender c.args.spot) c.args.name.now c.in-Some.before.now c.args.spot (sym c.in-Some.ensures.value)
    ((c.get_mut.follows.holds c.args.spot).3 (search rules))
