use Rattle.std.proofs.Common.{◌≡◌, ◌+◌, length, map}
use Rattle.sync_state.specs.JournalText.{bottom}
use Rattle.sync_state.specs.JournalReading.{AreItems}
use Rattle.sync_state.specs.Places.{place_at, last_of}
use Rattle.sync_state.proofs.items.read_items.Given as goal

abbrev pub invariant-loop-item : goal.invariant-loop-item
invariant-loop-item g l =
    AreItems (g.A.PlanItem.fits l.version) g.A.PlanItem.line g.A.PlanItem.place l.items.items l.initial.lines.rest.now l.lines.rest.now
    × (l.lines.taken ≡ l.initial.lines.taken + length l.items.items)
    × (place_at l.last ≡ last_of bottom (map g.A.PlanItem.place l.items.items))

abbrev pub decreases-loop-item : goal.decreases-loop-item
decreases-loop-item g l = length l.lines.rest.now
