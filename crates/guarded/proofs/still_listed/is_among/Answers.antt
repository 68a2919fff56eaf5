use Rattle.std.proofs.Common.{◌∙◌, true, rules}
use Rattle.std.proofs.lemmas.List.Sorted.{answers_always}
use Rattle.mailcore.specs.declared.listing.Item.{Item}
use Rattle.maildir.proofs.SearchedLemmas.{is_there}
use Rattle.guarded.proofs.LookedUp.{rises}
use Rattle.guarded.proofs.still_listed.is_among.Goals as goal

pub returns : goal.returns
returns c =
    let found = c.binary_search_by_key.ensures.position (λ (item : Item). item.uid) (answers_always _ _ _ (λ f a r q k. search rules)) in
    let there = is_there (λ (item : Item). item.uid) c.args.items.now c.args.uid c.get.result c.binary_search_by_key.result c.get.ensures.number (rises (λ (item : Item). item.uid) c.args.items.now c.requires) found (record { uid = 0; flags = 0; fit = true }) c.binary_search_by_key.ensures.bound in
    c.is_ok.ensures.value ∙ there
