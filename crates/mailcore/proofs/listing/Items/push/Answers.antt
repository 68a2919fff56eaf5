use Rattle.std.proofs.Common.{◌≡◌, sym, ◌∙◌, ap, true}
use Rattle.std.specs.Prelude.{nat_lt}
use Rattle.std.specs.List.{list_all}
use Rattle.mailcore.proofs.Rising.{rising-push}
use Rattle.mailcore.specs.declared.listing.Item.{Item}
use Rattle.mailcore.proofs.listing.Items.push.Goals as goal

pub invariant_of-self-2 : goal.invariant_of-self-2
invariant_of-self-2 c =
    let above : list_all (λ (i : Item). nat_lt i.uid c.args.item.uid) c.self.inside.list.items ≡ true =
    ap (λ is. list_all (λ (i : Item). nat_lt i.uid c.args.item.uid) is) (sym c.deref.ensures.value) ∙ sym c.is_above.ensures ∙ c.if-not-is_above.false in
    rw c.in_ok-push.ensures.items (rising-push (λ (i : Item). i.uid) _ _ c.self.invariant above)
