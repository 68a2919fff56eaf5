use Rattle.std.proofs.Common.{◌≡◌, ◌∙◌, List, true, sym, ap}
use Rattle.std.specs.List.{list_all}
use Rattle.mailcore.specs.declared.listing.Item.{Item}
use Rattle.rules.specs.Scene.{scene}
use Rattle.planner.proofs.Fitting.{none_unfit}
use Rattle.planner.proofs.unfit.unfit.Goals as goal

pub returns-then-are_fit-2 : goal.returns-then-are_fit-2
returns-then-are_fit-2 c =
    let far : list_all (λ (i : Item). i.fit) c.args.far.now.items ≡ true =
    sym (c.are_fit.ensures ∙ ap (λ (is : List Item). list_all (λ (i : Item). i.fit) is) c.as_slice-far_items.ensures.all) ∙ c.if-are_fit.true in
    let near : list_all (λ (i : Item). i.fit) c.args.near.now.items ≡ true =
    sym (c.are_fit-then-are_fit.ensures ∙ ap (λ (is : List Item). list_all (λ (i : Item). i.fit) is) c.as_slice-near_items.ensures.all) ∙ c.if-are_fit-2.true in
    c.new.ensures.items ∙ sym (none_unfit (scene c.args.far.now c.args.near.now c.args.state.now c.args.options.now) far near)
