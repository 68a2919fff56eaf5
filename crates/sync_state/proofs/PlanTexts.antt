-- Whether a plan has a text, by its last part.
use Rattle.std.proofs.Common.{◌≡◌, ◌<◌, ◌^◌, Bool, true, map, sym, ◌∙◌}
use Rattle.std.specs.Prelude.{All, ◌↔◌}
use Rattle.mailcore.specs.KeywordNames.{IsMap}
use Rattle.rules.specs.declared.plan.Plan.{Plan}
use Rattle.sync_state.specs.JournalText.{IsPlan, IsPlanSide, IsStep, IsNote, rises, bottom, step_place, note_place}

pub by_its_notes : (p : Plan) (notes : Bool) → p.run < 2 ^ 64 → IsPlanSide p.far → IsPlanSide p.near → IsMap p.keywords → All IsStep p.steps → rises bottom (map step_place p.steps) ≡ true
    → notes ≡ rises bottom (map note_place p.notes) → (notes ≡ true → All IsNote p.notes) → IsPlan p ↔ (notes ≡ true)
by_its_notes p notes run far near keywords steps order same fit = (
  λ whole. same ∙ whole.notes_rise,
  λ rise. record { run = run; far = far; near = near; steps = steps; notes = fit rise; steps_rise = order; notes_rise = sym same ∙ rise; keywords = keywords },
)
