use Rattle.std.proofs.Common.{rules}
use Rattle.std.proofs.lemmas.List.Sorted.{IsNonDecreasingBy-from_sort_by_key}
use Rattle.mailcore.specs.declared.side.Side.TheVariants.{Near}
use Rattle.planner.specs.declared.places.EntryPlace.{EntryPlace}
use Rattle.planner.proofs.Indexed.{is_index}
use Rattle.planner.proofs.places.near_places.Goals as goal

pub returns-clause-index : goal.returns-clause-index
returns-clause-index c =
    let rising = IsNonDecreasingBy-from_sort_by_key (λ (p : EntryPlace). p.uid) _ c.in_ok-sort_by_key.ensures.sorted (λ a r q k. search rules) in
    is_index Near c.args.entries.now _ (search rules) rising
