-- A step that sets flags of a message and clears others, by one call or two.
use Rattle.std.proofs.Common.{◌≡◌, inl, inr, ℕ, Bool, true, false, List, [], ◌∷◌, ◌++◌, Option, Some, None, refl, sym, ◌∙◌, ap, subst}
use Rattle.std.specs.Prelude.{Contains, flat_map}
use Rattle.std.proofs.lemmas.Bool.{both_ways}
use Rattle.std.proofs.lemmas.List.Elements.{All-nil}
use Rattle.mailcore.specs.declared.side.Side.{Side}
use Rattle.mailcore.specs.declared.side.Direction.{Direction}
use Rattle.mailcore.specs.FlagSet.{union, minus}
use Rattle.mailcore.specs.Sides.{target}
use Rattle.rules.specs.declared.options.Options.{Options}
use Rattle.rules.specs.declared.plan.Plan.{Plan}
use Rattle.rules.specs.declared.plan.Step.{Step}
use Rattle.rules.specs.declared.plan.Step.TheVariants as step
use Rattle.rules.specs.World.{World, scene_of}
use Rattle.sync_state.specs.declared.version.Version.{Version}
use Rattle.sync_state.specs.declared.journal.Logged.{Logged}
use Rattle.sync_state.specs.declared.journal.Logged.TheVariants.{Done}
use Rattle.law_outcome.specs.Steps.{Boxes, Test, after, boxes_of, changed_uid, own, step_after}
use Rattle.law_outcome.specs.OwnLaws.{is_own}
use Rattle.law_outcome.specs.CommitLaws.{results_of}
use Rattle.outside.specs.Devices.{Device, Named}
use Rattle.run_states.specs.Plans.{IsPlanned, begun, names_of, next_of}
use Rattle.run_states.specs.Moments.{HasBegun, Midway, Stands, boxes_at}
use Rattle.run_states.proofs.ApartFlags.{flags_apart}
use Rattle.run_states.proofs.FlagFacts.{AreApart, union_twice, minus_twice, union_again, none_set, none_cleared}
use Rattle.run_states.proofs.Flagged.{flagged, flagged_own, flagged_same, flagged_twice}
use Rattle.run_states.proofs.Moves.{IsMoved, named_moved}
use Rattle.run_states.proofs.Naming.{named_next}
use Rattle.run_states.proofs.NextSteps.{next_contained}
use Rattle.run_states.proofs.Plain.{as_done, done_is, now_done, still_done}

module _ (ours : List ℕ → Bool) (alone : Bool) (earlier : List Named) (w : World) (options : Options) (version : Version) (plan : Plan) (log : List Logged) (dir : Direction) (far near set cleared : ℕ) (is : next_of plan.steps log ≡ Some (step.Flags dir far near set cleared)) where
  abbrev s : Step
  s = step.Flags dir far near set cleared

  abbrev side : Side
  side = target dir

  abbrev uid : ℕ
  uid = changed_uid dir far near

  abbrev before : Boxes
  before = after plan.steps (results_of log) (boxes_of w)

  abbrev ones : List Named
  ones = names_of s

  abbrev changed : Boxes → (ℕ → ℕ) → Boxes
  changed b change = flagged b side uid change

  apart : IsPlanned ours w options plan → AreApart set cleared
  apart p = flags_apart (scene_of w options) p.marks dir far near set cleared (subst (λ (steps : List Step). Contains steps s) p.is_plan.steps (next_contained plan.steps log s is))

  alone_changed : (test : Test) (b : Boxes) (change : ℕ → ℕ) → own test b ≡ b → own test (changed b change) ≡ changed b change
  alone_changed test b change e = flagged_own test b side uid change ∙ ap (λ (x : Boxes). changed x change) e

  -- ---- flags are set

  half_again : (is_half : Bool) → changed (begun is_half before (Some s)) (λ x. union x set) ≡ begun true before (Some s)
  half_again false = refl
  half_again true = flagged_twice before side uid (λ x. union x set) (λ x. union x set) (λ x. union x set) (λ x. union_twice x set)

  half_made : (is_half : Bool) (d d' : Device) → Midway ours alone earlier w options version plan log false log is_half d → IsMoved ones d d' (changed (boxes_at d) (λ x. union x set)) → Midway ours alone earlier w options version plan log false log true d'
  half_made is_half d d' at m =
      let test = is_own w at.planned.marks in
      record {
        planned = at.planned;
        files = rw m.files at.files;
        fit = at.fit;
        validity = λ k. m.validity k ∙ at.validity k;
        rises = λ k. rw (m.next k) (at.rises k);
        boxes =
            ap (λ (x : Boxes). own test x) m.boxes
            ∙ flagged_own test (boxes_at d) side uid (λ x. union x set)
            ∙ ap (λ (x : Boxes). changed x (λ y. union y set)) (at.boxes ∙ ap (λ (o : Option Step). begun is_half before o) is)
            ∙ half_again is_half
            ∙ ap (λ (o : Option Step). begun true before o) (sym is);
        named = named_moved earlier plan.steps ones d d' (changed (boxes_at d) (λ x. union x set)) m (named_next plan.steps log s is) at.named;
        nobody = λ a. (ap (λ (x : Boxes). own test x) m.boxes ∙ alone_changed test (boxes_at d) (λ x. union x set) (at.nobody a).0 ∙ sym m.boxes, m.waiting ∙ (at.nobody a).1);
      }

  pub set_made : (is_made : Bool) (d d' : Device) → Stands ours alone earlier w options version plan log false d → IsMoved ones d d' (changed (boxes_at d) (λ x. union x set)) → HasBegun ours alone earlier w options version plan log is_made d'
  set_made is_made d d' (inl k) m = inl (true, half_made k.0 d d' k.1 m, λ e. refl)
  set_made is_made d d' (inr k) m =
      let at = as_done ours alone earlier w options version plan log s is refl false k.0 d k.1 in
      let test = is_own w at.planned.marks in
      inr (
        Done,
        still_done ours alone earlier w options version plan log s is refl ones (named_next plan.steps log s is) false d d' (changed (boxes_at d) (λ x. union x set)) at m
            (flagged_own test (boxes_at d) side uid (λ x. union x set)
            ∙ ap (λ (x : Boxes). changed x (λ y. union y set)) (at.boxes ∙ done_is ours alone earlier w options version plan log s is refl)
            ∙ flagged_twice before side uid (λ x. union x set) (λ x. minus (union x set) cleared) (λ x. minus (union x set) cleared) (λ x. union_again x set cleared (apart at.planned)))
            (λ a. alone_changed test (boxes_at d) (λ x. union x set) (at.nobody a).0),
      )

  -- no call is made for flags that are set, where there are none
  pub none_made : (d : Device) → Stands ours alone earlier w options version plan log false d → HasBegun ours alone earlier w options version plan log false d
  none_made d (inl k) = inl (k.0, k.1, λ e. absurd (both_ways false refl e))
  none_made d (inr k) = inr k

  -- ---- flags are cleared

  clear_half : (is_half is_made : Bool) → (is_made ≡ true → is_half ≡ true) → (is_made ≡ false → set ≡ 0) → changed (begun is_half before (Some s)) (λ x. minus x cleared) ≡ step_after before s None
  clear_half true is_made f g = flagged_twice before side uid (λ x. minus x cleared) (λ x. union x set) (λ x. minus (union x set) cleared) (λ x. refl)
  clear_half false true f g = absurd (both_ways true (sym (f refl)) refl)
  clear_half false false f g = flagged_same before side uid (λ x. minus x cleared) (λ x. minus (union x set) cleared) (λ x. none_set x cleared ∙ ap (λ (y : ℕ). minus (union x y) cleared) (sym (g refl)))

  pub clear_made : (is_made : Bool) → (is_made ≡ false → set ≡ 0) → (d d' : Device) → HasBegun ours alone earlier w options version plan log is_made d → IsMoved ones d d' (changed (boxes_at d) (λ x. minus x cleared)) → Midway ours alone earlier w options version plan log false (log ++ Done ∷ []) false d'
  clear_made is_made g d d' (inl k) m =
      let at = k.1 in
      let test = is_own w at.planned.marks in
      now_done ours alone earlier w options version plan log s is refl ones (named_next plan.steps log s is) false k.0 d d' (changed (boxes_at d) (λ x. minus x cleared)) at m
      (flagged_own test (boxes_at d) side uid (λ x. minus x cleared)
      ∙ ap (λ (x : Boxes). changed x (λ y. minus y cleared)) (at.boxes ∙ ap (λ (o : Option Step). begun k.0 before o) is)
      ∙ clear_half k.0 is_made k.2 g)
      (λ a. alone_changed test (boxes_at d) (λ x. minus x cleared) (at.nobody a).0)
  clear_made is_made g d d' (inr k) m =
      let at = as_done ours alone earlier w options version plan log s is refl false k.0 d k.1 in
      let test = is_own w at.planned.marks in
      still_done ours alone earlier w options version plan log s is refl ones (named_next plan.steps log s is) false d d' (changed (boxes_at d) (λ x. minus x cleared)) at m
      (flagged_own test (boxes_at d) side uid (λ x. minus x cleared)
      ∙ ap (λ (x : Boxes). changed x (λ y. minus y cleared)) (at.boxes ∙ done_is ours alone earlier w options version plan log s is refl)
      ∙ flagged_twice before side uid (λ x. minus x cleared) (λ x. minus (union x set) cleared) (λ x. minus (union x set) cleared) (λ x. minus_twice (union x set) cleared))
      (λ a. alone_changed test (boxes_at d) (λ x. minus x cleared) (at.nobody a).0)

  -- ---- none are to be cleared

  stays : (d : Device) → IsMoved [] d d (boxes_at d)
  stays d = record { validity = λ k. refl; next = λ k. refl; boxes = refl; waiting = refl; files = refl; named = refl }

  set_half : (is_half : Bool) → is_half ≡ true → cleared ≡ 0 → begun is_half before (Some s) ≡ step_after before s None
  set_half true e none = flagged_same before side uid (λ x. union x set) (λ x. minus (union x set) cleared) (λ x. none_cleared x set ∙ ap (λ (y : ℕ). minus (union x set) y) (sym none))
  set_half false e none = absurd (both_ways false refl e)

  pub clear_none : cleared ≡ 0 → (d : Device) → HasBegun ours alone earlier w options version plan log true d → Midway ours alone earlier w options version plan log false (log ++ Done ∷ []) false d
  clear_none none d (inl k) =
      let at = k.1 in
      now_done ours alone earlier w options version plan log s is refl [] (All-nil (λ n. Contains (flat_map names_of plan.steps) n)) false k.0 d d (boxes_at d) at (stays d)
      (at.boxes ∙ ap (λ (o : Option Step). begun k.0 before o) is ∙ set_half k.0 (k.2 refl) none)
      (λ a. (at.nobody a).0)
  clear_none none d (inr k) = as_done ours alone earlier w options version plan log s is refl false k.0 d k.1
