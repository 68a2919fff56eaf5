-- How many UIDs are given, and the mailboxes where they are those from next on.
use Rattle.std.proofs.Common.{◌≡◌, ℕ, suc, ◌+◌, ◌≤◌, List, [], ◌∷◌, ◌++◌, Option, Some, None, length, map, drop, refl, sym, ap, ◌∙◌, subst, arith, length-take, length-drop}
use Rattle.std.proofs.lemmas.Bool.{false≢true}
use Rattle.std.specs.Prelude.{Contains}
use Rattle.std.proofs.lemmas.List.{length-append, map-append}
use Rattle.std.proofs.lemmas.List.Elements.{Contains-append_right}
use Rattle.mailcore.specs.declared.side.Side.{Side}
use Rattle.mailcore.specs.declared.side.Side.TheVariants.{Far, Near}
use Rattle.mailcore.specs.declared.side.Direction.{Direction}
use Rattle.mailcore.specs.declared.side.Direction.TheVariants.{Pull, Push}
use Rattle.mailcore.specs.declared.mailbox.Message.{Message}
use Rattle.mailcore.specs.Sides.{target, towards}
use Rattle.mailcore.specs.Rise.{Rise}
use Rattle.mailcore.proofs.RiseLemmas.{range_rises}
use Rattle.rules.specs.declared.options.Options.{Options}
use Rattle.rules.specs.declared.plan.Step.{Step}
use Rattle.rules.specs.Outcome.{count_new}
use Rattle.rules.specs.World.{World, scene_of}
use Rattle.rules.specs.WorldAfter.{new_messages, staying, marks_to, messages_under}
use Rattle.rules.specs.Copies.{copies_under}
use Rattle.rules.proofs.WorldLemmas.{marks_counted, marks_to_counted}
use Rattle.law_outcome.specs.Steps.{Fit, given}
use Rattle.law_outcome.specs.StepLaws.{EachNewIsGiven, PlanReachesStoreAfter, CopiesStay}
use Rattle.law_outcome.proofs.Fold.{fit-drop}
use Rattle.law_outcome.proofs.Copying.{copies_of, uid_given-new}
use Rattle.law_outcome.proofs.PlanParts.{changes, plan_is}
use Rattle.law_outcome.proofs.WholePlans.{pulls, pushes, parts, given_near, given_far, plan_reaches}
use Rattle.planner.specs.Written.{all_steps}

given_count : (d : Direction) (ms : List Message) (marks : List (List ℕ)) (results : List (Option ℕ)) (more : List Step) → length ms ≡ length marks → length (copies_of d ms marks) ≤ length results →
    Fit (copies_of d ms marks ++ more) results → length (given (target d) (copies_of d ms marks) results) ≡ length ms
given_count d [] marks results more l k f = refl
given_count d (m ∷ ms) [] results more l k f = absurd (omega arith)
given_count d (m ∷ ms) (mark ∷ marks) [] more l k f = absurd (omega arith)
given_count d (m ∷ ms) (mark ∷ marks) (None ∷ results) more l k f = absurd (false≢true f.0)
given_count d (m ∷ ms) (mark ∷ marks) (Some uid ∷ results) more l k f =
    ap (λ (us : List ℕ). length (us ++ given (target d) (copies_of d ms marks) results)) (uid_given-new d m.uid m.flags mark uid)
    ∙ ap (λ n. suc n) (given_count d ms marks results more (omega arith) (omega arith) f.1)

module _ (w : World) (options : Options) (marks : List (List ℕ)) where
  parts_given : (results : List (Option ℕ)) → length marks ≡ count_new (scene_of w options) → length results ≡ length (parts w options marks) → Fit (parts w options marks) results →
      (side : Side) → length (given side (parts w options marks) results) ≡ length (new_messages w options (towards side))
  parts_given results l k fit side =
      let counted = marks_counted w options marks l in
      let first : length (new_messages w options Pull) ≡ length (marks_to w options Near marks) = simp length-take (omega arith) in
      let second : length (new_messages w options Push) ≡ length (marks_to w options Far marks) = simp length-drop (omega arith) in
      let many : length results ≡ length (pulls w options marks) + (length (pushes w options marks) + length (changes (scene_of w options))) =
      k ∙ length-append (pulls w options marks) (pushes w options marks ++ changes (scene_of w options)) ∙ ap (λ n. length (pulls w options marks) + n) (length-append (pushes w options marks) (changes (scene_of w options))) in
      let rest : length (pushes w options marks) ≤ length (drop (length (pulls w options marks)) results) = simp length-drop (omega arith) in
      by_side side first second rest (omega arith)
    where
      by_side : (side : Side) → length (new_messages w options Pull) ≡ length (marks_to w options Near marks) → length (new_messages w options Push) ≡ length (marks_to w options Far marks) →
          length (pushes w options marks) ≤ length (drop (length (pulls w options marks)) results) → length (pulls w options marks) ≤ length results →
          length (given side (parts w options marks) results) ≡ length (new_messages w options (towards side))
      by_side Near first second rest room =
          ap (λ (us : List ℕ). length us) (given_near w options marks results)
          ∙ given_count Pull (new_messages w options Pull) (marks_to w options Near marks) results (pushes w options marks ++ changes (scene_of w options)) first room fit
      by_side Far first second rest room =
          ap (λ (us : List ℕ). length us) (given_far w options marks results)
          ∙ given_count Push (new_messages w options Push) (marks_to w options Far marks) (drop (length (pulls w options marks)) results) (changes (scene_of w options)) second rest
          (fit-drop (pulls w options marks) (pushes w options marks ++ changes (scene_of w options)) results room fit)

pub each_given : EachNewIsGiven
each_given w options marks results l =
    subst (λ (steps : List Step). length results ≡ length steps → Fit steps results → (side : Side) → length (given side steps results) ≡ length (new_messages w options (towards side)))
    (sym (plan_is w options marks)) (parts_given w options marks results l)

-- ---- UIDs one after another

pub reaches_store : PlanReachesStoreAfter
reaches_store w options marks results h l k fit uids side =
    plan_reaches w options marks results _ _ h l k fit
    (subst (λ (us : List ℕ). Rise w.far.next us (w.far.next + length (new_messages w options Push))) (sym (uids Far)) (range_rises w.far.next (length (new_messages w options Push))))
    (subst (λ (us : List ℕ). Rise w.near.next us (w.near.next + length (new_messages w options Pull))) (sym (uids Near)) (range_rises w.near.next (length (new_messages w options Pull))))
    side
    ∙ ap (λ (us : List ℕ). messages_under w options side us marks) (uids side)

-- ---- a copy stays

uids_copied : (side : Side) (uids : List ℕ) (marks : List (List ℕ)) (ms : List Message) → length uids ≡ length ms → length marks ≡ length ms → map (λ m. m.uid) (copies_under side uids marks ms) ≡ uids
uids_copied side [] marks ms l k = refl
uids_copied side (u ∷ uids) [] [] l k = absurd (omega arith)
uids_copied side (u ∷ uids) [] (m ∷ ms) l k = absurd (omega arith)
uids_copied side (u ∷ uids) (mark ∷ marks) [] l k = absurd (omega arith)
uids_copied side (u ∷ uids) (mark ∷ marks) (m ∷ ms) l k = ap (λ us. u ∷ us) (uids_copied side uids marks ms (omega arith) (omega arith))

pub copies_stay : CopiesStay
copies_stay w options marks results far_next near_next h l k fit far near side u c =
    let uids : List ℕ = given side (all_steps (scene_of w options) marks) results in
    let copies : List Message = copies_under side uids (marks_to w options side marks) (new_messages w options (towards side)) in
    let are : map (λ (m : Message). m.uid) copies ≡ uids =
    uids_copied side uids (marks_to w options side marks) (new_messages w options (towards side)) (each_given w options marks results l k fit side) (marks_to_counted w options marks l side) in
    subst (λ (ms : List Message). Contains (map (λ (m : Message). m.uid) ms) u) (sym (plan_reaches w options marks results far_next near_next h l k fit far near side))
    (subst (λ us. Contains us u) (sym (map-append (λ (m : Message). m.uid) (staying w options side) copies))
    (Contains-append_right (map (λ (m : Message). m.uid) (staying w options side)) (map (λ (m : Message). m.uid) copies) u (subst (λ us. Contains us u) (sym are) c)))
