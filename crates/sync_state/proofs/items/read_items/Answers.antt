use Rattle.std.proofs.Common.{◌≡◌, ◌∙◌, ◌+◌, ℕ, true, List, [], ◌∷◌, ◌++◌, length, length-append, map, sym, ap, subst, arith, refl, rules}
use Rattle.texts.specs.declared.lines.Lines.{Lines}
use Rattle.sync_state.specs.JournalText.{is_below, bottom}
use Rattle.sync_state.specs.Places.{place_at, last_of}
use Rattle.sync_state.specs.JournalReading.{AreItems, ItemsRead}
use Rattle.sync_state.proofs.ItemLemmas.{no_items, item_more, last_item}
use Rattle.sync_state.proofs.items.read_items.Goals as goal

pub loop-item-init : goal.loop-item-init
loop-item-init g c =
    let text = c.args.lines.now.rest.now in
    let taken = c.args.lines.now.taken in
    let place = g.A.PlanItem.place in
    subst (λ (z : List g.row.A.Denot). AreItems (g.A.PlanItem.fits c.args.version) g.A.PlanItem.line place z text text × (taken ≡ taken + length z) × (bottom ≡ last_of bottom (map place z)))
    (sym c.new-items.ensures.items) (no_items (g.A.PlanItem.fits c.args.version) g.A.PlanItem.line place text, omega arith, refl)

pub loop-item-preserved : goal.loop-item-preserved
loop-item-preserved g c =
    let items = c.loop-item.items.items in
    let x = c.in-Some.item in
    let inv = c.loop-item.invariant in
    let place = g.A.PlanItem.place in
    let passed : c.is_below.result ≡ true = search rules in
    let below : is_below (last_of bottom (map place items)) (place x) ≡ true =
    ap (λ (z : ℕ × ℕ × ℕ). is_below z (place x)) (sym inv.2) ∙ ap (λ (z : ℕ × ℕ × ℕ). is_below (place_at c.loop-item.last) z) (sym c.place-place.ensures.place)
    ∙ sym c.is_below.ensures ∙ passed in
    let more = item_more (g.A.PlanItem.fits c.args.version) g.A.PlanItem.line place items x c.args.lines.now.rest.now c.loop-item.lines.rest.now c.take_item.new.lines.rest.now inv.0 c.in-Some.ensures.some below in
    let same : c.push.new.self.items ≡ items ++ x ∷ [] = c.in_ok-push.ensures.items in
    let size = ap (λ (z : List g.row.A.Denot). length z) same in
    let taken = c.in-Some.ensures.taken in
    let before = inv.1 in (
      subst (λ (z : List g.row.A.Denot). AreItems (g.A.PlanItem.fits c.args.version) g.A.PlanItem.line place z c.args.lines.now.rest.now c.take_item.new.lines.rest.now) (sym same) more,
      omega (arith, length-append items (x ∷ [])),
      c.place-place.ensures.place ∙ last_item place items x ∙ ap (λ (z : List g.row.A.Denot). last_of bottom (map place z)) (sym same),
    )

pub returns-clause-ok : goal.returns-clause-ok
returns-clause-ok g c =
    let here : ItemsRead (g.A.PlanItem.fits c.args.version) g.A.PlanItem.line g.A.PlanItem.place c.loop-item.items.items c.args.lines.now.rest.now c.loop-item.lines.rest.now =
    record { are = c.loop-item.invariant.0; all = c.in_default.ensures.none } in
    subst (λ (z : Lines). ItemsRead (g.A.PlanItem.fits c.args.version) g.A.PlanItem.line g.A.PlanItem.place c.loop-item.items.items c.args.lines.now.rest.now z.rest.now) (sym c.in_default.ensures.unchanged) here
