-- A message whose expunge is next is marked as deleted, wherever the run stands.
use Rattle.std.proofs.Common.{◌≡◌, ◌<◌, ℕ, Bool, true, false, List, [], ◌∷◌, ◌++◌, length, get_or, Option, None, Some, inl, inr, refl, sym, ◌∙◌, ap, subst}
use Rattle.std.specs.Prelude.{All}
use Rattle.std.proofs.lemmas.List.Elements.{All-weaker}
use Rattle.mailcore.specs.declared.side.Side.{Side}
use Rattle.mailcore.specs.declared.mailbox.Message.{Message}
use Rattle.mailcore.specs.FlagSet.{DELETED, has}
use Rattle.rules.specs.declared.options.Options.{Options}
use Rattle.rules.specs.declared.plan.Plan.{Plan}
use Rattle.rules.specs.declared.plan.Step.{Step}
use Rattle.rules.specs.declared.plan.Step.TheVariants as step
use Rattle.rules.specs.Called.{is_expunged}
use Rattle.rules.specs.World.{World, IsInOrder, scene_of, store}
use Rattle.sync_state.specs.declared.version.Version.{Version}
use Rattle.sync_state.specs.declared.journal.Logged.{Logged}
use Rattle.law_outcome.specs.Steps.{Boxes, Rises, after, boxes_of, own, box as messages_in}
use Rattle.law_outcome.specs.OwnLaws.{is_own}
use Rattle.law_outcome.proofs.Expunging.{deleted_before, next_expunged, none_then}
use Rattle.law_outcome.specs.CommitLaws.{results_of}
use Rattle.outside.specs.Devices.{Device, Named, box}
use Rattle.run_states.specs.Plans.{begun, next_of}
use Rattle.run_states.specs.Moments.{Midway, Stands, boxes_at}
use Rattle.run_states.proofs.NextSteps.{result_is, result_less}
use Rattle.run_states.proofs.Plain.{as_done, done_is}

module _ (ours : List ℕ → Bool) (alone : Bool) (earlier : List Named) (w : World) (options : Options) (version : Version) (plan : Plan) (log : List Logged) (h : IsInOrder w) (side : Side) (u : ℕ) (is : next_of plan.steps log ≡ Some (step.Expunge side u)) where
  abbrev IsDeleted : Message → Type 0
  IsDeleted m = m.uid ≡ u → has m.flags DELETED ≡ true

  -- it was not begun
  not_half : (is_half : Bool) (b : Boxes) → begun is_half b (next_of plan.steps log) ≡ b
  not_half is_half b = ap (λ (o : Option Step). begun is_half b o) is ∙ either is_half
    where
      either : (x : Bool) → begun x b (Some (step.Expunge side u)) ≡ b
      either true = refl
      either false = refl

  before_deleted : (torn is_half : Bool) (d : Device) → Midway ours alone earlier w options version plan log torn log is_half d → All IsDeleted (messages_in (boxes_at d) side)
  before_deleted torn is_half d at =
      let p = at.planned in
      let k = p.is_plan in
      subst (λ (steps : List Step). length (results_of log) < length steps → step.Expunge side u ≡ get_or steps (length (results_of log)) (step.Expunge side u) →
      Rises side (store w side).next steps (results_of log) (box d side).next → own (is_own w p.marks) (boxes_at d) ≡ after steps (results_of log) (boxes_of w) → All IsDeleted (messages_in (boxes_at d) side)) (sym k.steps)
      (λ below at rises own_is. deleted_before w options p.marks (results_of log) (boxes_at d) side u (box d side).next h below at rises own_is)
      (result_less plan.steps log (step.Expunge side u) is) (result_is plan.steps log (step.Expunge side u) is) (at.rises side) (at.boxes ∙ not_half is_half (after plan.steps (results_of log) (boxes_of w)))

  -- or it is done, and no such message is there
  then_none : (torn : Bool) (logged : Logged) (d : Device) → Midway ours alone earlier w options version plan log torn (log ++ logged ∷ []) false d → All IsDeleted (messages_in (boxes_at d) side)
  then_none torn logged d at =
      let done = as_done ours alone earlier w options version plan log (step.Expunge side u) is refl torn logged d at in
      let p = done.planned in
      let k = p.is_plan in
      let expunged = subst (λ (steps : List Step). length (results_of log) < length steps → step.Expunge side u ≡ get_or steps (length (results_of log)) (step.Expunge side u) → is_expunged (scene_of w options) side u ≡ true) (sym k.steps)
      (λ below at. next_expunged w options p.marks (results_of log) side u below at)
      (result_less plan.steps log (step.Expunge side u) is) (result_is plan.steps log (step.Expunge side u) is) in
      All-weaker (λ (m : Message). m.uid ≡ u → ⊥) IsDeleted (λ m none e. absurd (none e)) _
      (none_then w options p.marks (boxes_at d) (after plan.steps (results_of log) (boxes_of w)) side u None h expunged (done.boxes ∙ done_is ours alone earlier w options version plan log (step.Expunge side u) is refl))

  pub stands_deleted : (torn : Bool) (d : Device) → Stands ours alone earlier w options version plan log torn d → All IsDeleted (messages_in (boxes_at d) side)
  stands_deleted torn d (inl k) = before_deleted torn k.0 d k.1
  stands_deleted torn d (inr k) = then_none torn k.0 d k.1
