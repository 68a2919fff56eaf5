use Rattle.std.proofs.Common.{◌≡◌, ◌∙◌, ◌<◌, ◌^◌, true, sym, subst, List, map, All}
use Rattle.rules.specs.declared.plan.Step.{Step}
use Rattle.rules.specs.declared.plan.Note.{Note}
use Rattle.sync_state.specs.declared.version.Version.TheVariants.{Two}
use Rattle.sync_state.specs.JournalReading.{IsStepIn, IsNoteIn}
use Rattle.sync_state.specs.JournalText.{IsPlanSide, rises, bottom, step_place, note_place}
use Rattle.std.proofs.lemmas.Bool.{false≢true}
use Rattle.sync_state.proofs.PlanTexts.{by_its_notes}
use Rattle.sync_state.proofs.has_text.has_text.Goals as goal
use Rattle.sync_state.proofs.has_text.has_text.Goals.{then-side_has_text, else-side_has_text, then-side_has_text-2, else-side_has_text-2}

pub returns-then-are_in_order : goal.returns-then-are_in_order
returns-then-are_in_order c = elim c.if-side_has_text-2.branch [
  | then-side_has_text-2 w ↦ elim c.if-side_has_text.branch [
    | then-side_has_text v ↦
        let p = c.args.plan.now in
        let far : IsPlanSide p.far = c.side_has_text.ensures.1 v.if-side_has_text.true in
        let near : IsPlanSide p.near = v.side_has_text-then-side_has_text.ensures.1 (sym v.value-is ∙ w.if-side_has_text-2.true) in
        let steps : w.are_in_order.result ≡ true = sym w.value-is ∙ c.if-are_in_order.true in
        let fit : All (IsStepIn Two) p.steps = subst (λ (x : List Step). All (IsStepIn Two) x) w.as_slice.ensures (w.are_in_order.ensures.fit steps) in
        let order : rises bottom (map step_place p.steps) ≡ true = subst (λ (x : List Step). rises bottom (map step_place x) ≡ true) w.as_slice.ensures (sym w.are_in_order.ensures.order ∙ steps) in
        let run : p.run < 2 ^ 64 = c.run_fits.ensures in
        let notes : List Note → Type 0 = λ x. (c.are_in_order-then-are_in_order.result ≡ rises bottom (map note_place x)) × (c.are_in_order-then-are_in_order.result ≡ true → All (IsNoteIn Two) x) in
        let both : notes p.notes = subst notes c.as_slice-then-are_in_order.ensures (c.are_in_order-then-are_in_order.ensures.order, c.are_in_order-then-are_in_order.ensures.fit) in
        by_its_notes p c.are_in_order-then-are_in_order.result run far near c.map_fits.ensures (λ i d below. (fit i d below).0) order both.0 (λ rise i d below. (both.1 rise i d below).0)
    | else-side_has_text v ↦ absurd (false≢true (sym v.if-side_has_text.false ∙ (sym v.value-is ∙ w.if-side_has_text-2.true)))
  ]
  | else-side_has_text-2 w ↦ absurd (false≢true (sym w.if-side_has_text-2.false ∙ (sym w.value-is ∙ c.if-are_in_order.true)))
]
