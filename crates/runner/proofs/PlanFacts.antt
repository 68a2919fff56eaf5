-- What the planner's clauses say of the plan of two listings.
use Rattle.std.proofs.Common.{◌≡◌, ◌<◌, ◌+◌, ◌-◌, ◌^◌, ℕ, zero, suc, Bool, true, List, All, map, min, length, Option, Some, None, refl, sym, ap, ◌∙◌, subst, arith}
use Rattle.mailcore.specs.declared.listing.Listing.{Listing}
use Rattle.mailcore.specs.declared.side.Side.{Side}
use Rattle.mailcore.specs.declared.side.Side.TheVariants.{Far, Near}
use Rattle.mailcore.specs.declared.side.Direction.TheVariants.{Pull, Push}
use Rattle.mailcore.specs.Draws.{RUN_LENGTH, Repeats, after_pairs}
use Rattle.mailcore.specs.Operations.{item_sparing}
use Rattle.rules.specs.declared.options.Options.{Options}
use Rattle.rules.specs.declared.plan.Plan.{Plan}
use Rattle.rules.specs.declared.plan.PlanSide.{PlanSide}
use Rattle.rules.specs.declared.plan.Step.{Step}
use Rattle.rules.specs.declared.state.SyncState.{SyncState}
use Rattle.rules.specs.Outcome.{count_new, highest_after}
use Rattle.rules.specs.PlanEntries.{PlanAgrees}
use Rattle.rules.specs.Plans.{AreInRange, IsHighest, IsPlan}
use Rattle.rules.specs.Scene.{Scene, scene}
use Rattle.rules.specs.World.{World, scene_of, store}
use Rattle.planner.specs.Listed.{AreCalled, all_unfit, marks_of, side_with}
use Rattle.planner.specs.Written.{all_notes, all_steps}
use Rattle.book.specs.Agreement.{Agrees}
use Rattle.book.specs.BookLogs.{fresh}
use Rattle.book.specs.Books.{IsSound}
use Rattle.book.proofs.BegunPlans.{begun_agrees}
use Rattle.rand_core.specs.Stream.{Stream}
use Rattle.outside.specs.MailboxOperations.{HasNumbers}
use Rattle.outside.specs.Opened.{IsRead, Opened, TakesPlan, state_of}
use Rattle.run_states.specs.Plans.{IsPlanned, first_uid}
use Rattle.runner.specs.Answers.{AreDrawn, IsDrawn, Moves, RepeatsFor, RepeatsIn, run_of}
use Rattle.runner.specs.Before.{AreOld, AreShown, HasNoJournal}
use Rattle.runner.proofs.Fitness.{count_same, highest_same, notes_same, steps_same, unfit_same}

-- ---- it may be begun

highest_pulled : (s : SyncState) → IsSound s → IsHighest s.max_pulled
highest_pulled s k = by_run s.run refl
  where
    by_run : (n : ℕ) → s.run ≡ n → IsHighest s.max_pulled
    by_run zero e = let f = k.none e in let z = f.max_pulled in omega arith
    by_run (suc n) e = let t = k.made (omega arith) in t.max_pulled

highest_pushed : (s : SyncState) → IsSound s → IsHighest s.max_pushed
highest_pushed s k = by_run s.run refl
  where
    by_run : (n : ℕ) → s.run ≡ n → IsHighest s.max_pushed
    by_run zero e = let f = k.none e in let z = f.max_pushed in omega arith
    by_run (suc n) e = let t = k.made (omega arith) in t.max_pushed

pub in_range : (far near : Listing) (s : SyncState) → HasNumbers far → HasNumbers near → IsSound s → AreInRange far near s
in_range far near s f n k = record { far_validity = f.0; far_next = f.1; near_validity = n.0; near_next = n.1; max_pulled = highest_pulled s k; max_pushed = highest_pushed s k }

pub takes_plan : (opened : Option Opened) (s : SyncState) (plan : Plan) → state_of opened ≡ Some s → HasNoJournal opened → IsPlan plan → plan.run ≡ min (s.run + 1) (2 ^ 64 - 1) → run_of opened + 1 < 2 ^ 64 → PlanAgrees s.entries plan → TakesPlan opened plan
takes_plan None s plan e none has run room agrees = none
takes_plan (Some o) s plan e none has run room agrees =
    let same : o.state ≡ s = cc in
    let runs : o.state.run ≡ s.run = ap (λ (x : SyncState). x.run) same in
    record {
      missing = none;
      has_text = has;
      next = omega arith;
      agrees = subst (λ (x : SyncState). Agrees x.entries (fresh plan)) (sym same) (begun_agrees s.entries plan agrees);
    }

pub journal_read : (opened : Option Opened) → HasNoJournal opened → IsRead opened
journal_read None h = h
journal_read (Some o) h = tt

-- marks repeat before there is one for each new message, by what was read
pub repeats_in : (opened : Option Opened) (s : SyncState) (stream : Stream) (far near : Listing) (options : Options) → state_of opened ≡ Some s → RepeatsFor stream (count_new (scene far near s options)) → RepeatsIn opened stream far near options
repeats_in None s stream far near options e k = cc
repeats_in (Some o) s stream far near options e k = let same : o.state ≡ s = cc in subst (λ (x : SyncState). RepeatsFor stream (count_new (scene far near x options))) (sym same) k

-- its steps are those that are called for, under the marks that were drawn, by what was read
pub drawn_in : (opened : Option Opened) (s : SyncState) (stream : Stream) (far near : Listing) (options : Options) (steps : List Step) → state_of opened ≡ Some s → AreDrawn stream far near s options (marks_of steps) → AreCalled (scene far near s options) steps → IsDrawn opened stream far near options steps
drawn_in None s stream far near options steps e d k = cc
drawn_in (Some o) s stream far near options steps e d k =
    let same : o.state ≡ s = cc in
    subst (λ (x : SyncState). AreDrawn stream far near x options (marks_of steps) × AreCalled (scene far near x options) steps) (sym same) (d, k)

-- ---- it is the plan of the world that the listings show

module _ (ours : List ℕ → Bool) (w : World) (s : SyncState) (options : Options) (far near : Listing) (state : s ≡ w.state) (shown : AreShown w far near) where
  abbrev listed : Scene
  listed = scene far near s options

  above_is : listed ≡ record (scene_of w options) { near = map (item_sparing Near shown.spared) w.near.messages }
  above_is = rw (state, shown.far_is.items, shown.near_is.items) refl

  least : AreOld w.state.max_pushed w.state.entries shown.spared
  least = shown.old

  pub unfit_by : (unfit : List (Side × ℕ)) → unfit ≡ all_unfit listed → unfit ≡ all_unfit (scene_of w options)
  unfit_by unfit e = e ∙ ap (λ (x : Scene). all_unfit x) above_is ∙ unfit_same (scene_of w options) shown.spared w.near.messages least

  pub count_is : count_new listed ≡ count_new (scene_of w options)
  count_is = ap (λ (x : Scene). count_new x) above_is ∙ count_same (scene_of w options) shown.spared w.near.messages least

  pub planned_by : (plan : Plan) (stream : Stream) → AreDrawn stream far near s options (marks_of plan.steps) → All (λ mark. ours mark ≡ true) (marks_of plan.steps) → plan.run ≡ s.run + 1
      → plan.far ≡ side_with far (highest_after listed Pull) → plan.near ≡ side_with near (highest_after listed Push) → plan.steps ≡ all_steps listed (marks_of plan.steps) → plan.notes ≡ all_notes listed → plan.keywords ≡ options.keywords → IsPlanned ours w options plan
  planned_by plan stream drawn mine run far_side near_side steps notes keywords =
      let marks = marks_of plan.steps in
      let base : Scene = scene_of w options in
      let spared = shown.spared in
      let each : length marks ≡ count_new base = (let d = drawn.drawn in d.are_all) ∙ count_is in
      record {
        marks = marks;
        are_marks = record { count = each; each = drawn.each; differ = drawn.differ };
        are_ours = mine;
        is_plan = record {
          marked = each;
          run = run ∙ ap (λ (x : SyncState). x.run + 1) state;
          far_validity = ap (λ (p : PlanSide). p.validity) far_side ∙ shown.far_is.validity;
          near_validity = ap (λ (p : PlanSide). p.validity) near_side ∙ shown.near_is.validity;
          far_highest = ap (λ (p : PlanSide). p.highest) far_side ∙ ap (λ (x : Scene). highest_after x Pull) above_is ∙ highest_same base spared w.near.messages least Pull;
          near_highest = ap (λ (p : PlanSide). p.highest) near_side ∙ ap (λ (x : Scene). highest_after x Push) above_is ∙ highest_same base spared w.near.messages least Push;
          steps = steps ∙ ap (λ (x : Scene). all_steps x marks) above_is ∙ steps_same base spared w.near.messages least marks;
          notes = notes ∙ ap (λ (x : Scene). all_notes x) above_is ∙ notes_same base spared w.near.messages least;
          keywords = keywords;
        };
        next = next;
      }
    where
      next : (side : Side) → first_uid plan side ≡ (store w side).next
      next Far = ap (λ (p : PlanSide). p.next) far_side ∙ shown.far_is.next
      next Near = ap (λ (p : PlanSide). p.next) near_side ∙ shown.near_is.next

pub plan_run : (opened : Option Opened) (s : SyncState) (plan : Plan) → state_of opened ≡ Some s → plan.run ≡ min (s.run + 1) (2 ^ 64 - 1) → run_of opened + 1 < 2 ^ 64 → plan.run ≡ s.run + 1
plan_run None s plan e run room = cc
plan_run (Some o) s plan e run room = let same : o.state ≡ s = cc in let runs : o.state.run ≡ s.run = ap (λ (x : SyncState). x.run) same in omega arith

pub same_state : (opened : Option Opened) (s t : SyncState) → state_of opened ≡ Some s → state_of opened ≡ Some t → s ≡ t
same_state None s t e f = cc
same_state (Some o) s t e f = let a : o.state ≡ s = cc in let b : o.state ≡ t = cc in sym a ∙ b

pub no_pairs : (stream : Stream) → after_pairs stream 0 ≡ stream
unfolding after_pairs
no_pairs stream = refl

-- the generator moves by whole pairs
pub moved_pairs : (old new : Stream) (count : ℕ) → (r : Repeats old count) × (new ≡ after_pairs old (r.pairs + RUN_LENGTH)) → Moves old new
moved_pairs old new count k = let r = k.0 in (r.pairs + RUN_LENGTH, k.1)

-- or not at all
pub moved_none : (stream : Stream) → Moves stream stream
moved_none stream = (0, sym (no_pairs stream))

pub moved_same : (old new : Stream) → new ≡ old → Moves old new
moved_same old new e = subst (λ (s : Stream). Moves old s) (sym e) (moved_none old)
