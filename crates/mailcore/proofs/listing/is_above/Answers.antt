use Rattle.std.proofs.Common.{◌∙◌, ap}
use Rattle.std.specs.Prelude.{nat_lt}
use Rattle.mailcore.proofs.Rising.{above_last}
use Rattle.mailcore.specs.declared.listing.Item.{Item}
use Rattle.mailcore.proofs.listing.is_above.Goals as goal

pub returns-in-Some : goal.returns-in-Some
returns-in-Some c =
    let last = c.in-Some.ensures.item in
    ap (λ n. nat_lt n c.get-in-Some.result) c.get.ensures.number ∙ ap (λ n. nat_lt c.in-Some.last.now.uid n) c.get-in-Some.ensures.number
    ∙ above_last (λ (i : Item). i.uid) c.args.items.now c.in-Some.last.now c.args.item.now.uid c.requires last.3.0 last.1
