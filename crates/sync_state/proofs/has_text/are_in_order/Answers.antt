use Rattle.std.proofs.Common.{◌≡◌, ◌∙◌, ◌<◌, true, length, sym, rules}
use Rattle.sync_state.specs.JournalText.{is_below}
use Rattle.sync_state.specs.Places.{place_at}
use Rattle.sync_state.specs.declared.version.Version.TheVariants.{Two}
use Rattle.sync_state.proofs.OrderedItems.{rises_past, fit_with}
use Rattle.sync_state.proofs.has_text.are_in_order.Goals as goal

pub loop-item-preserved : goal.loop-item-preserved
loop-item-preserved g c =
    let items = c.args.items.now in
    let i = c.loop-item.item-index in
    let x = c.item-item.result in
    let within : i < length items = search rules in
    let below : is_below (place_at c.loop-item.last) (place_at c.place-place.result) ≡ true = sym c.is_below.ensures ∙ c.if-not-is_below.false in (
      c.loop-item.invariant.0 ∙ rises_past g.A.PlanItem.place items i x (place_at c.loop-item.last) (place_at c.place-place.result) within c.item-item.is c.place-place.ensures.place below,
      λ rest. c.loop-item.invariant.1 (fit_with (g.A.PlanItem.fits Two) items i x within c.item-item.is c.place-place.ensures.fits rest),
    )
