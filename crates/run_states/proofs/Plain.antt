-- A step that makes no copy.
use Rattle.std.proofs.Common.{◌≡◌, All, ℕ, Bool, true, false, List, [], ◌∷◌, ◌++◌, Option, Some, None, inl, inr, refl, sym, ◌∙◌, ap, subst, append-nil}
use Rattle.std.specs.Prelude.{Contains, flat_map, is_some}
use Rattle.std.proofs.lemmas.Bool.{both_ways}
use Rattle.mailcore.specs.declared.side.Side.{Side}
use Rattle.mailcore.specs.Rise.{Rise}
use Rattle.rules.specs.declared.options.Options.{Options}
use Rattle.rules.specs.declared.plan.Plan.{Plan}
use Rattle.rules.specs.declared.plan.Step.{Step}
use Rattle.rules.specs.declared.plan.Step.TheVariants as step
use Rattle.rules.specs.World.{World, store}
use Rattle.sync_state.specs.declared.version.Version.{Version}
use Rattle.sync_state.specs.declared.journal.Logged.{Logged}
use Rattle.sync_state.specs.declared.journal.Logged.TheVariants.{Done}
use Rattle.law_outcome.specs.Steps.{Boxes, Fit, Rises, Test, IsOwnStep, after, boxes_of, given, makes_copy, own, step_after, uid_given}
use Rattle.law_outcome.specs.OwnLaws.{is_own}
use Rattle.law_outcome.proofs.Again.{again, from_half}
use Rattle.law_outcome.proofs.Among.{among}
use Rattle.law_outcome.proofs.Fold.{after-more, fit-more, given-more}
use Rattle.law_outcome.specs.CommitLaws.{result_of, results_of}
use Rattle.outside.specs.Devices.{Device, Named, box}
use Rattle.run_states.specs.Plans.{begun, names_of, next_of}
use Rattle.run_states.specs.Moments.{Midway, Stands, boxes_at}
use Rattle.run_states.proofs.Moves.{IsMoved, named_moved}
use Rattle.run_states.proofs.Naming.{named_next}
use Rattle.run_states.proofs.NextSteps.{fit_last, result_is, result_less, results_more}

pub plain_own : (test : Test) (b : Boxes) (s : Step) → makes_copy s ≡ false → IsOwnStep test b s None
plain_own test b (step.New d u flags mark) e = tt
plain_own test b (step.Gone d f n) e = tt
plain_own test b (step.Flags d f n set cleared) e = tt
plain_own test b (step.Expunge side u) e = tt

plain_given : (side : Side) (s : Step) (r : Option ℕ) → makes_copy s ≡ false → uid_given side s r ≡ []
plain_given side (step.New d u flags mark) r e = absurd (both_ways true e refl)
plain_given side (step.Gone d f n) r e = refl
plain_given side (step.Flags d f n set cleared) r e = refl
plain_given side (step.Expunge at u) r e = refl

plain_none : (r : Option ℕ) → is_some r ≡ false → r ≡ None
plain_none None e = refl
plain_none (Some u) e = absurd (both_ways true e refl)

-- where it is half done, the whole of it still leads to the same
half_whole : (is_half : Bool) (b : Boxes) (s : Step) → makes_copy s ≡ false → step_after (begun is_half b (Some s)) s None ≡ step_after b s None
half_whole false b s e = refl
half_whole true b (step.New d u flags mark) e = absurd (both_ways true e refl)
half_whole true b (step.Gone d f n) e = refl
half_whole true b (step.Flags d f n set cleared) e = from_half b d f n set cleared None
half_whole true b (step.Expunge side u) e = refl

module _ (ours : List ℕ → Bool) (alone : Bool) (earlier : List Named) (w : World) (options : Options) (version : Version) (plan : Plan) (log : List Logged) (s : Step) (is : next_of plan.steps log ≡ Some s) (plain : makes_copy s ≡ false) where
  abbrev before : Boxes
  before = after plan.steps (results_of log) (boxes_of w)

  -- both mailboxes once it is done
  pub done_is : after plan.steps (results_of (log ++ Done ∷ [])) (boxes_of w) ≡ step_after before s None
  done_is = ap (λ (rs : List (Option ℕ)). after plan.steps rs (boxes_of w)) (results_more log Done) ∙ after-more plan.steps (results_of log) s None (boxes_of w) (result_less plan.steps log s is) (result_is plan.steps log s is)

  given_is : (side : Side) → given side plan.steps (results_of (log ++ Done ∷ [])) ≡ given side plan.steps (results_of log)
  given_is side =
      ap (λ (rs : List (Option ℕ)). given side plan.steps rs) (results_more log Done)
      ∙ given-more side plan.steps (results_of log) s None (result_less plan.steps log s is) (result_is plan.steps log s is)
      ∙ ap (λ (us : List ℕ). given side plan.steps (results_of log) ++ us) (plain_given side s None plain)
      ∙ append-nil (given side plan.steps (results_of log))

  fit_is : Fit plan.steps (results_of log) → Fit plan.steps (results_of (log ++ Done ∷ []))
  fit_is f = rw (results_more log Done) (fit-more plan.steps (results_of log) s None (result_less plan.steps log s is) (result_is plan.steps log s is) f (sym plain))

  -- a result of this step is as any other
  pub as_done : (torn : Bool) (r : Logged) (d : Device) → Midway ours alone earlier w options version plan log torn (log ++ r ∷ []) false d → Midway ours alone earlier w options version plan log torn (log ++ Done ∷ []) false d
  as_done torn r d at =
      let none : result_of r ≡ None = plain_none (result_of r) (fit_last plan.steps log s r at.fit is ∙ plain) in
      let same : results_of (log ++ r ∷ []) ≡ results_of (log ++ Done ∷ []) = results_more log r ∙ ap (λ (x : Option ℕ). results_of log ++ x ∷ []) none ∙ sym (results_more log Done) in
      record {
        planned = at.planned;
        files = at.files;
        fit = subst (λ (rs : List (Option ℕ)). Fit plan.steps rs) same at.fit;
        validity = at.validity;
        rises = λ side. subst (λ (rs : List (Option ℕ)). Rises side (store w side).next plan.steps rs (box d side).next) same (at.rises side);
        boxes = at.boxes ∙ ap (λ (rs : List (Option ℕ)). after plan.steps rs (boxes_of w)) same;
        named = at.named;
        nobody = at.nobody;
      }

  -- where both mailboxes, as they are seen, become those after the step
  pub now_done : (names : List Named) → All (λ n. Contains (flat_map names_of plan.steps) n) names → (torn is_half : Bool) (d d' : Device) (b : Boxes) (at : Midway ours alone earlier w options version plan log torn log is_half d) → IsMoved names d d' b → own (is_own w at.planned.marks) b ≡ step_after before s None → (alone ≡ true → own (is_own w at.planned.marks) b ≡ b) → Midway ours alone earlier w options version plan log torn (log ++ Done ∷ []) false d'
  now_done names of_step torn is_half d d' b at m e nobody = record {
    planned = at.planned;
    files = rw m.files at.files;
    fit = fit_is at.fit;
    validity = λ side. m.validity side ∙ at.validity side;
    rises = λ side. rw (m.next side) (subst (λ (us : List ℕ). Rise (store w side).next us (box d side).next) (sym (given_is side)) (at.rises side));
    boxes = ap (λ (x : Boxes). own (is_own w at.planned.marks) x) m.boxes ∙ e ∙ sym done_is;
    named = named_moved earlier plan.steps names d d' b m of_step at.named;
    nobody = λ a. (ap (λ (x : Boxes). own (is_own w at.planned.marks) x) m.boxes ∙ nobody a ∙ sym m.boxes, m.waiting ∙ (at.nobody a).1);
  }

  pub still_done : (names : List Named) → All (λ n. Contains (flat_map names_of plan.steps) n) names → (torn : Bool) (d d' : Device) (b : Boxes) (at : Midway ours alone earlier w options version plan log torn (log ++ Done ∷ []) false d) → IsMoved names d d' b → own (is_own w at.planned.marks) b ≡ step_after before s None → (alone ≡ true → own (is_own w at.planned.marks) b ≡ b) → Midway ours alone earlier w options version plan log torn (log ++ Done ∷ []) false d'
  still_done names of_step torn d d' b at m e nobody = record {
    planned = at.planned;
    files = rw m.files at.files;
    fit = at.fit;
    validity = λ side. m.validity side ∙ at.validity side;
    rises = λ side. rw (m.next side) (at.rises side);
    boxes = ap (λ (x : Boxes). own (is_own w at.planned.marks) x) m.boxes ∙ e ∙ sym done_is;
    named = named_moved earlier plan.steps names d d' b m of_step at.named;
    nobody = λ a. (ap (λ (x : Boxes). own (is_own w at.planned.marks) x) m.boxes ∙ nobody a ∙ sym m.boxes, m.waiting ∙ (at.nobody a).1);
  }

  -- ---- a call that is the whole step

  nobody_else : (test : Test) (b : Boxes) → own test b ≡ b → own test (step_after b s None) ≡ step_after b s None
  nobody_else test b e = among test b s None (plain_own test b s plain) ∙ ap (λ (x : Boxes). step_after x s None) e

  pub whole_step : (torn is_half : Bool) (d d' : Device) → Midway ours alone earlier w options version plan log torn log is_half d → IsMoved (names_of s) d d' (step_after (boxes_at d) s None) → Midway ours alone earlier w options version plan log torn (log ++ Done ∷ []) false d'
  whole_step torn is_half d d' at m =
      let test = is_own w at.planned.marks in
      now_done (names_of s) (named_next plan.steps log s is) torn is_half d d' (step_after (boxes_at d) s None) at m
      (among test (boxes_at d) s None (plain_own test (boxes_at d) s plain)
      ∙ ap (λ (x : Boxes). step_after x s None) (at.boxes ∙ ap (λ (o : Option Step). begun is_half before o) is)
      ∙ half_whole is_half before s plain)
      (λ a. nobody_else test (boxes_at d) (at.nobody a).0)

  pub whole_again : (torn : Bool) (d d' : Device) → Midway ours alone earlier w options version plan log torn (log ++ Done ∷ []) false d → IsMoved (names_of s) d d' (step_after (boxes_at d) s None) → Midway ours alone earlier w options version plan log torn (log ++ Done ∷ []) false d'
  whole_again torn d d' at m =
      let test = is_own w at.planned.marks in
      still_done (names_of s) (named_next plan.steps log s is) torn d d' (step_after (boxes_at d) s None) at m
      (among test (boxes_at d) s None (plain_own test (boxes_at d) s plain)
      ∙ ap (λ (x : Boxes). step_after x s None) (at.boxes ∙ done_is)
      ∙ again before s None None plain)
      (λ a. nobody_else test (boxes_at d) (at.nobody a).0)

  -- wherever the run stands, the call leaves the step done
  pub any_whole : (torn : Bool) (d d' : Device) → Stands ours alone earlier w options version plan log torn d → IsMoved (names_of s) d d' (step_after (boxes_at d) s None) → Midway ours alone earlier w options version plan log torn (log ++ Done ∷ []) false d'
  any_whole torn d d' (inl k) m = whole_step torn k.0 d d' k.1 m
  any_whole torn d d' (inr k) m = whole_again torn d d' (as_done torn k.0 d k.1) m
