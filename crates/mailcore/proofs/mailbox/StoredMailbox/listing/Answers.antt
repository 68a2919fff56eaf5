use Rattle.std.proofs.Common.{List, map, sym, ◌∙◌, ap, subst}
use Rattle.mailcore.specs.declared.listing.Item.{Item}
use Rattle.mailcore.specs.Listed.{IsRising, item_of}
use Rattle.mailcore.proofs.Rising.{rising-map}
use Rattle.mailcore.proofs.mailbox.StoredMailbox.listing.Goals as goal

pub from_vec-requires : goal.from_vec-requires
from_vec-requires c =
    let P = λ (is : List Item). IsRising is in
    subst P (sym (c.in_ok-items.ensures ∙ ap (λ ms. map (item_of c.args.side) ms) c.as_slice.ensures.all)) (rising-map (λ (i : Item). i.uid) (item_of c.args.side) _ c.as_slice.ensures.rising)
