use Rattle.std.proofs.Common.{rules}
use Rattle.std.proofs.lemmas.Option.{MatchOption-at_some}
use Rattle.planner.proofs.LookedUp.{item_at_place}
use Rattle.planner.proofs.searches.item_without_gap.Goals as goal

pub returns-in-Some : goal.returns-in-Some
returns-in-Some c =
    let at = MatchOption-at_some _ _ c.in-Some.item c.in-Some.is c.get.ensures.lookup.3 in
    item_at_place c.args.items.now c.in_ok-place.place c.args.uid c.in-Some.item.now c.requires at.0 (at.1 c.in-Some.item.now) (search rules)
