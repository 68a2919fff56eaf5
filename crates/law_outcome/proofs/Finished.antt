-- What the steps of a plan and its journal leave is alike by lists; and a world where nothing waits.
use Rattle.std.proofs.Common.{◌≡◌, ℕ, ◌+◌, List, [], ◌++◌, Option, length, refl, sym, ap, ◌∙◌, subst, arith, append-nil}
use Rattle.std.proofs.lemmas.List.{length-map}
use Rattle.mailcore.specs.declared.side.Side.{Side}
use Rattle.mailcore.specs.declared.side.Side.TheVariants.{Far, Near}
use Rattle.rules.specs.declared.plan.Step.{Step}
use Rattle.rules.specs.World.{World, Waiting, store, scene_of}
use Rattle.rules.specs.Admission.{admitted, admitted_under}
use Rattle.rules.specs.WorldAfter.{outcome}
use Rattle.rules.specs.Alike.{Alike}
use Rattle.rules.specs.AlikeBy.{AlikeBy, AreCopyMarks}
use Rattle.planner.specs.Written.{all_steps}
use Rattle.law_outcome.specs.Steps.{box, boxes_of, after, Fit, given, Rises}
use Rattle.law_outcome.specs.CommitLaws.{result_of, results_of}
use Rattle.law_outcome.proofs.WholePlans.{plan_reaches}
use Rattle.law_outcome.proofs.Given.{each_given}
use Rattle.law_outcome.proofs.Committed.{commit_reaches}
use Rattle.law_outcome.specs.AlikeLaws.{AlikeInOrder, AlikeWithoutWaiting, StepsAreAlike, FinishedIsAlike, own_world, FinishedAmongOthers}
use Rattle.law_outcome.proofs.Admission.{admitted_sound, opening_names}
use Rattle.law_outcome.proofs.Whole.{alike_in_turn, alike_under_admission}
use Rattle.law_outcome.proofs.InTurn.{numbered_from}

pub steps_are_alike : StepsAreAlike
steps_are_alike w options marks results found h m l fit rises messages validity waiting s = record {
  uids = λ side. given side (all_steps (scene_of w options) marks) results;
  marks = marks;
  are_marks = m;
  each = each_given w options marks results m.count l fit;
  rise = rises;
  messages = λ side. messages side ∙ plan_reaches w options marks results found.far.next found.near.next h m.count l fit (rises Far) (rises Near) side;
  validity = validity;
  waiting = waiting;
  state = s;
}

pub finished_is_alike : FinishedIsAlike
finished_is_alike opening options uids next marks j outcome_marks found h ad copies m plan l fit rises messages validity waiting commits =
    let w : World = admitted_under uids next opening in
    let sound = admitted_sound opening uids next h.world.in_order ad in
    let results : List (Option ℕ) = results_of j.log in
    let many : length results ≡ length (all_steps (scene_of w options) marks) = length-map j.log result_of ∙ l ∙ ap (λ (steps : List Step). length steps) plan.steps in
    alike_under_admission opening options uids next outcome_marks found h ad copies
    (steps_are_alike w options marks results found sound m many
    (subst (λ steps. Fit steps results) plan.steps fit)
    (λ side. subst (λ steps. Rises side (store w side).next steps results (store found side).next) plan.steps (rises side))
    (λ side. messages side ∙ ap (λ steps. box (after steps results (boxes_of w)) side) plan.steps)
    (λ side. validity side ∙ same side)
    waiting
    (commit_reaches w options marks j found.state sound plan l fit commits))
  where
    same : (side : Side) → (store opening side).validity ≡ (store (admitted_under uids next opening) side).validity
    same Far = refl
    same Near = refl

-- ---- among others

pub finished_among_others : FinishedAmongOthers
finished_among_others opening options uids next marks j outcome_marks found h ad copies m plan l fit rises boxes validity commits =
    finished_is_alike opening options uids next marks j outcome_marks (own_world (admitted_under uids next opening) marks found) h ad copies m plan l fit
    rises_own messages validity_own refl commits
  where
    rises_own : (side : Side) → Rises side (store (admitted_under uids next opening) side).next j.plan.steps (results_of j.log) (store (own_world (admitted_under uids next opening) marks found) side).next
    rises_own Far = rises Far
    rises_own Near = rises Near

    messages : (side : Side) → (store (own_world (admitted_under uids next opening) marks found) side).messages ≡ box (after j.plan.steps (results_of j.log) (boxes_of (admitted_under uids next opening))) side
    messages Far = ap (λ b. box b Far) boxes
    messages Near = ap (λ b. box b Near) boxes

    validity_own : (side : Side) → (store (own_world (admitted_under uids next opening) marks found) side).validity ≡ (store opening side).validity
    validity_own Far = validity Far
    validity_own Near = validity Near

-- ---- where nothing waits

abbrev with_waiting : World → ℕ → List Waiting → World
with_waiting w next fs = record { far = w.far; near = record { validity = w.near.validity; next = next; messages = w.near.messages ++ numbered_from w.near.next fs }; waiting = []; state = w.state }

nothing_waits : (w : World) → w.waiting ≡ [] → admitted w ≡ w
nothing_waits w e =
    ap (λ (fs : List Waiting). with_waiting w (w.near.next + length fs) fs) e
    ∙ ap (λ n. with_waiting w n []) (let k : w.near.next + 0 ≡ w.near.next = omega arith in k)
    ∙ ap (λ ms. record { far = w.far; near = record { validity = w.near.validity; next = w.near.next; messages = ms }; waiting = []; state = w.state }) (append-nil w.near.messages)
    ∙ ap (λ fs. record { far = w.far; near = w.near; waiting = fs; state = w.state }) (sym e)

pub alike_in_order : AlikeInOrder
alike_in_order opening options outcome_marks found sound names e =
    subst (λ x. AreCopyMarks x options outcome_marks → AlikeBy x options found → Alike opening (outcome x options outcome_marks) found) (nothing_waits opening e)
    (alike_in_turn opening options outcome_marks found sound names)

pub alike_without_waiting : AlikeWithoutWaiting
alike_without_waiting opening options outcome_marks found h e = alike_in_order opening options outcome_marks found h.world.in_order (opening_names opening h) e
