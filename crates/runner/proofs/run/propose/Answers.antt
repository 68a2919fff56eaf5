use Rattle.std.proofs.Common.{◌≡◌, Option, refl, rules, ap, subst, sym, ◌∙◌}
use Rattle.std.proofs.lemmas.Result.{err_from_is_err_and}
use Rattle.book.specs.declared.book.Pending.TheVariants.{Missing}
use Rattle.book.specs.BookLogs.{begun}
use Rattle.outside.specs.Asked.{Begun}
use Rattle.outside.specs.Opened.{Opened, state_of, turned, with_listing}
use Rattle.mailcore.specs.declared.side.Side.TheVariants.{Far, Near}
use Rattle.planner.specs.Listed.{all_unfit}
use Rattle.rules.specs.World.{World, scene_of}
use Rattle.rules.specs.declared.plan.Plan.{Plan}
use Rattle.run_states.specs.Conditions.{Underway}
use Rattle.runner.specs.Answers.{HasRepeats, Inputs, PlanStart}
use Rattle.runner.specs.Before.{IsMade, IsShown, world_shown}
use Rattle.runner.specs.Faults.{because}
use Rattle.runner.specs.Going.{IsGoing, log_at, plan_at}
use Rattle.runner.specs.Validities.{AnswersChanged, ListsChanged, ReportsUnlessSame}
use Rattle.runner.proofs.StepParts.{left_never}
use Rattle.runner.proofs.PartCalls.{left_after, left_here, left_weaker, passed_after, passed_weaker, passed_with}
use Rattle.runner.proofs.Begun.{clear_underway}
use Rattle.runner.proofs.Passes.{after_plan, begun_going, begun_log, begun_plan, caused_memory, caused_plan, memory_plan, plan_made, repeats_since, run_here, skipped_by, turned_run}
use Rattle.runner.proofs.PlanFacts.{moved_none}
use Rattle.runner.proofs.Listings.{listed_no_journal, listed_open, listed_read, listed_run, listed_state, lists_changed, turned_is_shown, turned_shown, two_shown}
use Rattle.runner.proofs.Readings.{none_read, turned_open, turned_read, turned_state}
use Rattle.runner.proofs.Validities.{listed_answers, missing_here, unless_same}
use Rattle.runner.specs.Asking.{nothing}
use Rattle.runner.proofs.Asking.{asks_beginning, asks_none}
use Rattle.runner.proofs.run.propose.Goals as goal

pub list_both-requires : goal.list_both-requires
list_both-requires g c κs within =
    let old = g.O.Outside.opened c.args.outside.now in
    (search rules, (rw c.in_ok-clear.ensures.opened (turned_read (λ _. Missing) old (none_read old c.requires.1.1.none)), (rw c.in_ok-clear.ensures.opened (turned_open (λ _. Missing) old c.requires.1.1.boxes), c.requires.1.1.map ∙ sym c.clear.ensures.keywords)))

pub make_plan-requires : goal.make_plan-requires
make_plan-requires g c =
    let old = g.O.Outside.opened c.args.outside.now in
    let both = c.in_ok-both.both in
    let listed = c.in_ok-both.ensures.opened in
    record {
      journal = rw (listed.2, c.in_ok-clear.ensures.opened) (listed_no_journal Near both.near.validity listed.1 _ (listed_no_journal Far both.far.validity listed.0 _ (missing_here old c.requires.1.1.none)));
      room = rw (listed.2, listed_run Near both.near.validity listed.1 (with_listing Far both.far.validity listed.0 (g.O.Outside.opened c.clear.new.outside)), listed_run Far both.far.validity listed.0 (g.O.Outside.opened c.clear.new.outside), c.in_ok-clear.ensures.opened, turned_run (λ _. Missing) old) c.requires.1.1.room;
      far_numbers = c.in_ok-both.ensures.far_numbers;
      near_numbers = c.in_ok-both.ensures.near_numbers;
    }

pub all_skipped-requires : goal.all_skipped-requires
all_skipped-requires g c =
    let old = g.O.Outside.opened c.args.outside.now in
    let both = c.in_ok-both.both in
    let listed = c.in_ok-both.ensures.opened in
    record { read = rw (listed.2, c.in_ok-clear.ensures.opened) (listed_read Near both.near.validity listed.1 _ (listed_read Far both.far.validity listed.0 _ (turned_read (λ _. Missing) old (none_read old c.requires.1.1.none)))) }

pub write_plan-requires : goal.write_plan-requires
write_plan-requires g c κs within = (search rules, c.in_ok-plan.ensures.takes)

pub returns-in_err-clear-clause-part : goal.returns-in_err-clear-clause-part
returns-in_err-clear-clause-part g c =
    let e = err_from_is_err_and c.from_residual.result c.from_residual.ensures.1 in
    rw (e.1, e.2) (left_never _ _ _ _ _ _ (left_weaker _ _ _ _ _ _ _ (λ d k. k.none) c.in_err-clear.ensures.part))

pub returns-in_err-both-clause-part : goal.returns-in_err-both-clause-part
returns-in_err-both-clause-part g c =
    let e = err_from_is_err_and c.from_residual-in_err-both.result c.from_residual-in_err-both.ensures.1 in
    let s1 = g.O.Outside.seen c.clear.new.outside in
    rw (e.1, e.2) (left_never _ _ _ _ _ _ (left_weaker _ _ _ _ _ _ _ (λ d k. k.none) (left_after _ _ _ _ _ _ _ _ s1 _ c.in_err-both.ensures.was_honest c.in_ok-clear.ensures.part c.in_err-both.ensures.part)))

pub returns-in_err-plan-clause-part : goal.returns-in_err-plan-clause-part
returns-in_err-plan-clause-part g c =
    let e = err_from_is_err_and c.from_residual-in_err-plan.result c.from_residual-in_err-plan.ensures.1 in
    let s1 = g.O.Outside.seen c.clear.new.outside in
    let so_far = passed_after _ _ _ _ _ _ _ _ s1 _ c.in_ok-both.ensures.was_honest c.in_ok-clear.ensures.part c.in_ok-both.ensures.part in
    let old = g.O.Outside.opened c.args.outside.now in
    let both = c.in_ok-both.both in
    let cleared = turned (λ _. Missing) old in
    let listed = c.in_ok-both.ensures.opened in
    let emptied : g.O.Outside.opened c.list_both.new.outside ≡ with_listing Near both.near.validity listed.1 (with_listing Far both.far.validity listed.0 cleared) = listed.2 ∙ ap (λ (x : Option Opened). with_listing Near both.near.validity listed.1 (with_listing Far both.far.validity listed.0 x)) c.in_ok-clear.ensures.opened in
    let shown = subst (λ (x : Option Opened). IsShown x (world_shown x)) (sym emptied) (two_shown both.near.validity both.far.validity listed.1 listed.0 cleared (turned_read (λ _. Missing) old (none_read old c.requires.1.1.none))) in
    let s2 = g.O.Outside.seen c.list_both.new.outside in
    let reasons = because (λ side. ReportsUnlessSame (g.O.Outside.honest c.list_both.new.outside) old (g.O.Outside.seen c.args.outside.now).device side × AnswersChanged (g.O.Outside.opened c.list_both.new.outside) side) (HasRepeats g.opening (g.O.Outside.opened c.list_both.new.outside) (g.O.Outside.honest c.list_both.new.outside) (PlanStart g.opening old c.args.options.now (g.R.Rng.stream c.args.rng.now) (g.O.Outside.seen c.args.outside.now).device) c.args.options.now (g.R.Rng.stream c.args.rng.now)) in
    rw (e.1, e.2) (left_weaker _ _ _ _ _ _ _ (λ d k. k.none) (left_here _ _ _ _ _ _ _ _ so_far (caused_plan reasons _ s2 s2 c.in_err-plan.ensures.fault (λ side is. let lists = c.in_err-plan.ensures.changed side is in let before : ListsChanged cleared both.far both.near side = lists_changed Far both.far.validity listed.0 cleared both.far both.near side (lists_changed Near both.near.validity listed.1 (with_listing Far both.far.validity listed.0 cleared) both.far both.near side (subst (λ (x : Option Opened). ListsChanged x both.far both.near side) emptied lists)) in (unless_same _ _ old cleared both.far both.near side _ s1.device refl c.requires.1.1.none c.in_ok-both.ensures.was_honest c.in_ok-clear.ensures.validities c.in_ok-both.ensures.validities before, subst (λ (x : Option Opened). AnswersChanged x side) (sym emptied) (listed_answers cleared both.far both.near listed.0 listed.1 side (missing_here old c.requires.1.1.none) before))) (λ is. repeats_since g.opening (g.O.Outside.opened c.list_both.new.outside) c.args.options.now (g.R.Rng.stream c.args.rng.now) both.far both.near _ _ s2.device shown (c.in_err-plan.ensures.repeats is) (λ h (k : PlanStart g.opening old c.args.options.now (g.R.Rng.stream c.args.rng.now) (g.O.Outside.seen c.args.outside.now).device). so_far.reaches h k.none))) (λ k. after_plan (Underway g.opening) _ _ _ c.in_err-plan.ensures.fault (clear_underway g.opening _ _ _ k.clear))))

pub returns-in_err-unfit-clause-part : goal.returns-in_err-unfit-clause-part
returns-in_err-unfit-clause-part g c =
    let e = err_from_is_err_and c.from_residual-in_err-unfit.result c.from_residual-in_err-unfit.ensures.1 in
    let s1 = g.O.Outside.seen c.clear.new.outside in
    let so_far = passed_after _ _ _ _ _ _ _ _ s1 _ c.in_ok-both.ensures.was_honest c.in_ok-clear.ensures.part c.in_ok-both.ensures.part in
    let old = g.O.Outside.opened c.args.outside.now in
    let s2 = g.O.Outside.seen c.list_both.new.outside in
    let reasons = because (λ side. ReportsUnlessSame (g.O.Outside.honest c.list_both.new.outside) old (g.O.Outside.seen c.args.outside.now).device side × AnswersChanged (g.O.Outside.opened c.list_both.new.outside) side) (HasRepeats g.opening (g.O.Outside.opened c.list_both.new.outside) (g.O.Outside.honest c.list_both.new.outside) (PlanStart g.opening old c.args.options.now (g.R.Rng.stream c.args.rng.now) (g.O.Outside.seen c.args.outside.now).device) c.args.options.now (g.R.Rng.stream c.args.rng.now)) in
    rw (e.1, e.2) (left_weaker _ _ _ _ _ _ _ (λ d k. k.none) (left_here _ _ _ _ _ _ _ _ so_far (caused_memory reasons _ s2 s2 c.in_err-unfit.ensures.fault) (λ k. after_plan (Underway g.opening) _ _ _ (memory_plan _ c.in_err-unfit.ensures.fault) (clear_underway g.opening _ _ _ k.clear))))

pub returns-in_err-write_plan-clause-part : goal.returns-in_err-write_plan-clause-part
returns-in_err-write_plan-clause-part g c =
    let e = err_from_is_err_and c.from_residual-in_err-write_plan.result c.from_residual-in_err-write_plan.ensures.1 in
    let s1 = g.O.Outside.seen c.clear.new.outside in
    let s2 = g.O.Outside.seen c.list_both.new.outside in
    let both = c.in_ok-both.both in
    let now = g.O.Outside.opened c.list_both.new.outside in
    let options = c.args.options.now in
    let stream = g.R.Rng.stream c.args.rng.now in
    let so_far = passed_after _ _ _ _ _ _ _ _ s1 _ c.in_ok-both.ensures.was_honest c.in_ok-clear.ensures.part c.in_ok-both.ensures.part in
    let asked = passed_with (Inputs g.opening options stream) _ _ _ _ _ _ so_far in
    let ready = passed_weaker _ _ (PlanStart g.opening (g.O.Outside.opened c.args.outside.now) options stream) _ (IsMade g.opening now c.in_ok-plan.plan) _ 0 _ s2 refl (λ d k. (k.asked, k.none)) (λ d k. plan_made g.opening now options stream both.far both.near c.in_ok-plan.plan c.in_ok-plan.ensures.drawn c.in_ok-plan.ensures.plan d k.0 k.1) asked in
    rw (e.1, e.2) (left_never _ _ _ _ _ _ (left_after _ _ _ _ _ _ _ _ s2 _ c.in_err-write_plan.ensures.was_honest ready c.in_err-write_plan.ensures.part))

pub returns-clause-part : goal.returns-clause-part
returns-clause-part g c =
    let s1 = g.O.Outside.seen c.clear.new.outside in
    let s2 = g.O.Outside.seen c.list_both.new.outside in
    let both = c.in_ok-both.both in
    let now = g.O.Outside.opened c.list_both.new.outside in
    let options = c.args.options.now in
    let stream = g.R.Rng.stream c.args.rng.now in
    let so_far = passed_after _ _ _ _ _ _ _ _ s1 _ c.in_ok-both.ensures.was_honest c.in_ok-clear.ensures.part c.in_ok-both.ensures.part in
    let asked = passed_with (Inputs g.opening options stream) _ _ _ _ _ _ so_far in
    let ready = passed_weaker _ _ (PlanStart g.opening (g.O.Outside.opened c.args.outside.now) options stream) _ (IsMade g.opening now c.in_ok-plan.plan) _ 0 _ s2 refl (λ d k. (k.asked, k.none)) (λ d k. plan_made g.opening now options stream both.far both.near c.in_ok-plan.plan c.in_ok-plan.ensures.drawn c.in_ok-plan.ensures.plan d k.0 k.1) asked in
    passed_after _ _ _ _ _ _ _ _ s2 _ c.in_ok-write_plan.ensures.was_honest ready c.in_ok-write_plan.ensures.part

pub returns-in_err-clear-clause-moved : goal.returns-in_err-clear-clause-moved
returns-in_err-clear-clause-moved g c = moved_none _

pub returns-in_err-both-clause-moved : goal.returns-in_err-both-clause-moved
returns-in_err-both-clause-moved g c = moved_none _

pub returns-clause-proposed : goal.returns-clause-proposed
returns-clause-proposed g c =
    let old = g.O.Outside.opened c.args.outside.now in
    let now = g.O.Outside.opened c.list_both.new.outside in
    let new = g.O.Outside.opened c.write_plan.new.outside in
    let s1 = g.O.Outside.seen c.clear.new.outside in
    let both = c.in_ok-both.both in
    let plan = c.in_ok-plan.plan in
    let cleared = turned (λ _. Missing) old in
    let listed = c.in_ok-both.ensures.opened in
    let far = listed.0 in
    let near = listed.1 in
    let start = with_listing Near both.near.validity near (with_listing Far both.far.validity far cleared) in
    let emptied : now ≡ start = listed.2 ∙ ap (λ (x : Option Opened). with_listing Near both.near.validity near (with_listing Far both.far.validity far x)) c.in_ok-clear.ensures.opened in
    let before = turned_read (λ _. Missing) old (none_read old c.requires.1.1.none) in
    let read = listed_read Near both.near.validity near (with_listing Far both.far.validity far cleared) (listed_read Far both.far.validity far cleared before) in
    let opens = listed_open Near both.near.validity near (with_listing Far both.far.validity far cleared) (listed_open Far both.far.validity far cleared (turned_open (λ _. Missing) old c.requires.1.1.boxes)) in
    let written : new ≡ turned (λ _. begun plan) start = c.in_ok-write_plan.ensures.opened ∙ ap (turned (λ _. begun plan)) emptied in
    let same : plan_at new ≡ plan = ap plan_at written ∙ begun_plan start plan read in
    let state : state_of now ≡ state_of old = ap state_of emptied ∙ listed_state Near both.near.validity near (with_listing Far both.far.validity far cleared) ∙ listed_state Far both.far.validity far cleared ∙ turned_state (λ _. Missing) old in
    let world : world_shown new ≡ world_shown now = ap world_shown c.in_ok-write_plan.ensures.opened ∙ turned_shown (λ _. begun plan) now in
    record {
      going = subst IsGoing (sym written) (begun_going start plan read opens);
      log = ap log_at written ∙ begun_log start plan read;
      run = run_here old now c.args.options.now _ both.far both.near plan _ _ state (ap (λ (p : Plan). p.steps) same) c.in_ok-plan.ensures.drawn c.in_ok-unfit.ensures.unfit;
      shown = subst (λ (x : Option Opened). IsShown x (world_shown x)) (sym written) (subst (IsShown (turned (λ _. begun plan) start)) (sym (turned_shown (λ _. begun plan) start)) (turned_is_shown (λ _. begun plan) start (world_shown start) (two_shown both.near.validity both.far.validity near far cleared before)));
      skipped = λ h k.
          let so_far = passed_after _ _ _ _ _ _ _ _ s1 _ c.in_ok-both.ensures.was_honest c.in_ok-clear.ensures.part c.in_ok-both.ensures.part in
          let shown = so_far.reaches (c.in_ok-write_plan.ensures.was_honest h) k.none in
          let unfit = c.in_ok-unfit.unfit.items in
          let here = skipped_by g.opening now c.args.options.now (g.R.Rng.stream c.args.rng.now) both.far both.near unfit c.in_ok-unfit.ensures.unfit (g.O.Outside.seen c.list_both.new.outside).device k.asked shown in
          subst (λ (w : World). unfit ≡ all_unfit (scene_of w g.opening.options)) (sym world) here;
    }

pub returns-in_err-clear-clause-asked : goal.returns-in_err-clear-clause-asked
returns-in_err-clear-clause-asked g c = asks_none g.O.Outside.noted _ _ _ c.clear.ensures.asked

pub returns-in_err-both-clause-asked : goal.returns-in_err-both-clause-asked
returns-in_err-both-clause-asked g c = asks_none g.O.Outside.noted _ _ _ (c.list_both.ensures.asked ∙ c.clear.ensures.asked)

pub returns-in_err-plan-clause-asked : goal.returns-in_err-plan-clause-asked
returns-in_err-plan-clause-asked g c = asks_none g.O.Outside.noted _ _ _ (c.list_both.ensures.asked ∙ c.clear.ensures.asked)

pub returns-in_err-unfit-clause-asked : goal.returns-in_err-unfit-clause-asked
returns-in_err-unfit-clause-asked g c = asks_none g.O.Outside.noted _ _ _ (c.list_both.ensures.asked ∙ c.clear.ensures.asked)

pub returns-in_err-write_plan-clause-asked : goal.returns-in_err-write_plan-clause-asked
returns-in_err-write_plan-clause-asked g c = asks_beginning g.O.Outside.noted nothing c.in_ok-plan.plan _ _ (c.write_plan.ensures.asked ∙ ap (λ l. g.O.Outside.noted l (Begun c.in_ok-plan.plan)) (c.list_both.ensures.asked ∙ c.clear.ensures.asked))

pub returns-clause-asked : goal.returns-clause-asked
returns-clause-asked g c = asks_beginning g.O.Outside.noted nothing c.in_ok-plan.plan _ _ (c.write_plan.ensures.asked ∙ ap (λ l. g.O.Outside.noted l (Begun c.in_ok-plan.plan)) (c.list_both.ensures.asked ∙ c.clear.ensures.asked))

pub returns-clause-begun : goal.returns-clause-begun
returns-clause-begun g c =
    let old = g.O.Outside.opened c.args.outside.now in
    let both = c.in_ok-both.both in
    let plan = c.in_ok-plan.plan in
    let listed = c.in_ok-both.ensures.opened in
    let cleared = turned (λ _. Missing) old in
    let start = with_listing Near both.near.validity listed.1 (with_listing Far both.far.validity listed.0 cleared) in
    let emptied : g.O.Outside.opened c.list_both.new.outside ≡ start = listed.2 ∙ ap (λ (x : Option Opened). with_listing Near both.near.validity listed.1 (with_listing Far both.far.validity listed.0 x)) c.in_ok-clear.ensures.opened in
    let read = listed_read Near both.near.validity listed.1 (with_listing Far both.far.validity listed.0 cleared) (listed_read Far both.far.validity listed.0 cleared (turned_read (λ _. Missing) old (none_read old c.requires.1.1.none))) in
    let written : g.O.Outside.opened c.write_plan.new.outside ≡ turned (λ _. begun plan) start = c.in_ok-write_plan.ensures.opened ∙ ap (turned (λ _. begun plan)) emptied in
    let same : plan_at (g.O.Outside.opened c.write_plan.new.outside) ≡ plan = ap plan_at written ∙ begun_plan start plan read in
    rw same (c.write_plan.ensures.asked ∙ ap (λ l. g.O.Outside.noted l (Begun plan)) (c.list_both.ensures.asked ∙ c.clear.ensures.asked))
