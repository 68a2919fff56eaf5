use Rattle.std.proofs.Common.{◌≡◌, All, map, drop}
use Rattle.sync_state.specs.JournalText.{rises, bottom}
use Rattle.sync_state.specs.Places.{place_at}
use Rattle.sync_state.specs.declared.version.Version.TheVariants.{Two}
use Rattle.sync_state.proofs.has_text.are_in_order.Given as goal

abbrev pub invariant-loop-item : goal.invariant-loop-item
invariant-loop-item g l =
    (rises bottom (map g.A.PlanItem.place l.items) ≡ rises (place_at l.last) (map g.A.PlanItem.place (drop l.item-index l.items)))
    × (All (g.A.PlanItem.fits Two) (drop l.item-index l.items) → All (g.A.PlanItem.fits Two) l.items)
