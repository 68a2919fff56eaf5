use Rattle.std.proofs.Common.{◌≡◌, ℕ, Bool, false, List, None, Option, arith, refl, rules, subst, sym, ◌∙◌}
use Rattle.std.proofs.lemmas.Result.{err_from_is_err_and}
use Rattle.rules.specs.declared.plan.Step.{Step}
use Rattle.run_states.specs.Plans.{NamedBy}
use Rattle.rand_core.specs.Stream.{Stream}
use Rattle.rules.specs.declared.options.Options.{Options}
use Rattle.rules.specs.World.{World, scene_of}
use Rattle.planner.specs.Listed.{all_unfit}
use Rattle.outside.specs.Devices.{Device}
use Rattle.outside.specs.Opened.{Opened}
use Rattle.run_states.specs.Conditions.{Underway}
use Rattle.run_states.specs.Openings.{Opening, once_listed}
use Rattle.run_states.proofs.Growth.{since_any, since_any_world, underway_any}
use Rattle.runner.specs.Answers.{IsRun, PlanStart, RunEnd}
use Rattle.runner.specs.Before.{IsShown, world_shown}
use Rattle.runner.specs.Going.{BeforeStep, log_at, logs_of, made, plan_at}
use Rattle.runner.specs.Results.{EndsBy}
use Rattle.runner.proofs.StepParts.{left_never, refused_from, steps_reported, unrefused_reported}
use Rattle.runner.proofs.Listings.{committed_listed, is_shown_by, same_shown}
use Rattle.runner.proofs.PartCalls.{left_after, left_knowing, left_reported, passed_after, passed_knowing, passed_weaker}
use Rattle.runner.proofs.Passes.{none_few, ran_answers, takes_commit, whole_steps}
use Rattle.runner.proofs.Reported.{named_last, reported, reported_whole}
use Rattle.runner.proofs.Finding.{all_new, same_none}
use Rattle.runner.proofs.StageLemmas.{drawn_left, frame_of, frame_then}
use Rattle.runner.proofs.Asking.{asks_along, asks_any, asks_before, asks_begun, written_at}
use Rattle.runner.proofs.run.begin.Goals as goal

pub carry_out-requires : goal.carry_out-requires
carry_out-requires g c κs within = (search rules, (search rules, ((let p = c.in_ok-unfit.ensures.proposed in p.going), ((let p = c.in_ok-unfit.ensures.part in p.is_whole), (let ready = c.requires.1.1.1 in let f = c.propose.ensures.frame in ready.map ∙ sym f.keywords)))))

pub conclude-requires : goal.conclude-requires
conclude-requires g c κs within =
    let h = c.in_ok-performed.ensures.opened in
    let start = g.O.Outside.opened c.propose.new.outside in (
      search rules,
      (
        h.going,
        (
          takes_commit start (g.O.Outside.opened c.carry_out.new.outside) c.in_ok-performed.performed.items (none_few start (let p = c.in_ok-unfit.ensures.proposed in p.log)) h c.in_ok-performed.ensures.steps,
          c.in_ok-performed.ensures.ended,
        ),
      ),
    )

pub returns-in_err-unfit : goal.returns-in_err-unfit
returns-in_err-unfit g c =
    let e = err_from_is_err_and c.from_residual.result c.from_residual.ensures.1 in
    rw (e.1, e.2) (record { stage = drawn_left g.O.Outside g.opening _ _ _ _ _ _ _ _ _ _ c.in_err-unfit.ensures.frame (asks_any g.O.Outside.noted _ _ _ c.propose.ensures.asked) c.in_err-unfit.ensures.moved (left_reported _ _ _ _ _ _ _ _ (unrefused_reported _ _ (λ step n. n)) c.in_err-unfit.ensures.part) })

-- the run is underway for some world, if it is for the one that was listed
anyhow : {ours : List ℕ → Bool} {alone : Bool} (opening : Opening ours alone) (opened : Option Opened) (options : Options) (stream : Stream) (listed : World) (d0 : Device) → PlanStart opening opened options stream d0 → (d : Device) → Underway (once_listed opening listed) d → Underway opening d
anyhow opening opened options stream listed d0 k d u = let n = k.none in underway_any opening listed d n.unplanned.unlisted u

pub returns-in_err-performed : goal.returns-in_err-performed
returns-in_err-performed g c =
    let e = err_from_is_err_and c.from_residual-in_err-performed.result c.from_residual-in_err-performed.ensures.1 in
    let s1 = g.O.Outside.seen c.propose.new.outside in
    let honest = c.in_err-performed.ensures.was_honest in
    let proposed = c.in_ok-unfit.ensures.part in
    let listed = world_shown (g.O.Outside.opened c.propose.new.outside) in
    let frame = frame_then g.O.Outside _ _ _ c.in_ok-unfit.ensures.frame (frame_of g.O.Outside _ _ honest c.in_err-performed.ensures.keywords) in
    rw (e.1, e.2) (record { stage = drawn_left g.O.Outside g.opening _ _ _ _ _ _ _ _ _ _ frame (asks_begun g.O.Outside.noted _ (plan_at (g.O.Outside.opened c.propose.new.outside)) _ _ _ c.in_ok-unfit.ensures.begun (asks_along g.O.Outside.noted _ _ _ _ (written_at (g.O.Outside.opened c.propose.new.outside) c.in_ok-unfit.ensures.proposed.log) c.carry_out.ensures.asked)) c.in_ok-unfit.ensures.moved (left_knowing _ _ _ _ _ _ _ (anyhow g.opening _ _ _ listed _) (left_after _ _ _ _ (Underway (once_listed g.opening listed)) _ _ _ s1 _ honest proposed (left_reported _ _ _ _ _ _ _ _ (steps_reported _ _ (refused_from _ _ _ _ _ (λ h at. proposed.reaches (honest h) at))) c.in_err-performed.ensures.part))) })

pub returns-in_err-conclude : goal.returns-in_err-conclude
returns-in_err-conclude g c =
    let e = err_from_is_err_and c.from_residual-in_err-conclude.result c.from_residual-in_err-conclude.ensures.1 in
    let s1 = g.O.Outside.seen c.propose.new.outside in
    let s2 = g.O.Outside.seen c.carry_out.new.outside in
    let performed = c.in_ok-performed.ensures in
    let last = c.in_err-conclude.ensures.frame in
    let ready = g.O.Outside.opened c.propose.new.outside in
    let done = g.O.Outside.opened c.carry_out.new.outside in
    let logged = performed.opened in
    let same : world_shown done ≡ world_shown ready = same_shown done ready logged.state logged.listed in
    let so_far = passed_after _ _ _ _ _ _ _ _ s1 _ performed.was_honest c.in_ok-unfit.ensures.part performed.part in
    let here = passed_knowing _ _ _ (BeforeStep (once_listed g.opening (world_shown done)) done false) _ _ _ (λ k d at. subst (λ (w : World). BeforeStep (once_listed g.opening w) done false d) (sym same) at) so_far in
    let frame = frame_then g.O.Outside _ _ _ (frame_then g.O.Outside _ _ _ c.in_ok-unfit.ensures.frame (frame_of g.O.Outside _ _ performed.was_honest performed.keywords)) last in
    rw (e.1, e.2) (record { stage = drawn_left g.O.Outside g.opening _ _ _ _ _ _ _ _ _ _ frame (asks_begun g.O.Outside.noted _ (plan_at (g.O.Outside.opened c.propose.new.outside)) _ _ _ c.in_ok-unfit.ensures.begun (asks_before g.O.Outside.noted _ _ _ _ (asks_along g.O.Outside.noted _ _ _ _ (written_at (g.O.Outside.opened c.propose.new.outside) c.in_ok-unfit.ensures.proposed.log) c.carry_out.ensures.asked) c.conclude.ensures.asked)) c.in_ok-unfit.ensures.moved (left_never _ _ _ _ _ _ (left_knowing _ _ _ _ _ _ _ (anyhow g.opening _ _ _ (world_shown done) _) (left_after _ _ _ _ (Underway (once_listed g.opening (world_shown done))) _ _ _ s2 _ last.was_honest here c.in_err-conclude.ensures.part))) })

pub returns : goal.returns
returns g c =
    let options = c.args.options.now in
    let stream = g.R.Rng.stream c.args.rng.now in
    let old = g.O.Outside.opened c.args.outside.now in
    let ready = g.O.Outside.opened c.propose.new.outside in
    let done = g.O.Outside.opened c.carry_out.new.outside in
    let new = g.O.Outside.opened c.conclude.new.outside in
    let d0 = (g.O.Outside.seen c.args.outside.now).device in
    let s1 = g.O.Outside.seen c.propose.new.outside in
    let s2 = g.O.Outside.seen c.carry_out.new.outside in
    let d2 = (g.O.Outside.seen c.conclude.new.outside).device in
    let may = c.requires.1.1.1 in
    let proposed = c.in_ok-unfit.ensures.proposed in
    let carried = c.in_ok-performed.ensures in
    let performed = c.in_ok-performed.performed in
    let unfit = c.in_ok-unfit.unfit in
    let last = c.in_ok-conclude.ensures.frame in
    let concluded = c.in_ok-conclude.ensures.concluded in
    let part = c.in_ok-unfit.ensures.part in
    let from = PlanStart g.opening old options stream in
    let logged = carried.opened in
    let shown = world_shown ready in
    let same : world_shown done ≡ shown = same_shown done ready logged.state logged.listed in
    let listed = once_listed g.opening (world_shown done) in
    let so_far = passed_after _ _ _ _ _ _ _ _ s1 _ carried.was_honest part carried.part in
    let here = passed_knowing _ from _ (BeforeStep listed done false) _ _ _ (λ k d at. subst (λ (w : World). BeforeStep (once_listed g.opening w) done false d) (sym same) at) so_far in
    let whole = whole_steps ready performed.items proposed.log carried.steps in
    let unlisted : from d0 → g.opening.listed ≡ None = (λ k. let n = k.none in n.unplanned.unlisted) in
    let ends : g.O.Outside.honest c.conclude.new.outside → from d0 → EndsBy listed (plan_at done) (log_at done) d2 = (λ h k. concluded.ends h (here.reaches (last.was_honest h) k)) in
    let over : g.O.Outside.honest c.conclude.new.outside → from d0 → EndsBy g.opening (plan_at done) (log_at done) d2 = (λ h k. since_any g.opening (world_shown done) _ (unlisted k) (ends h k)) in
    let is : (h : g.O.Outside.honest c.conclude.new.outside) (k : from d0) → (over h k).world ≡ shown = (λ h k. since_any_world g.opening (world_shown done) _ (unlisted k) (ends h k) ∙ (ends h k).listed (world_shown done) refl ∙ same) in
    record {
      stage = record {
        stage = record {
          frame = frame_then g.O.Outside _ _ _ (frame_then g.O.Outside _ _ _ c.in_ok-unfit.ensures.frame (frame_of g.O.Outside _ _ carried.was_honest carried.keywords)) last;
          asked = asks_begun g.O.Outside.noted _ (plan_at (g.O.Outside.opened c.propose.new.outside)) _ _ _ c.in_ok-unfit.ensures.begun (asks_before g.O.Outside.noted _ _ _ _ (asks_along g.O.Outside.noted _ _ _ _ (written_at (g.O.Outside.opened c.propose.new.outside) c.in_ok-unfit.ensures.proposed.log) c.carry_out.ensures.asked) c.conclude.ensures.asked);
          answer = record {
            by_files = ran_answers old performed unfit may.none;
            results = λ h. reported ready done new performed.items _ carried.opened carried.steps carried.fits concluded.committed (concluded.held h);
            reported = λ h k. reported_whole g.opening ready done new performed.items unfit.items _ proposed.log carried.opened carried.steps (over h k)
                (is_shown_by ready new _ (committed_listed done new concluded.committed ∙ logged.listed) (subst (IsShown ready) (sym (is h k)) proposed.shown))
                (subst (λ (w : World). unfit.items ≡ all_unfit (scene_of w g.opening.options)) (sym (is h k)) (proposed.skipped (carried.was_honest (last.was_honest h)) k));
            found = λ h k d to.
                let at = part.reaches (carried.was_honest (last.was_honest h)) k in
                all_new (once_listed g.opening shown) ready performed.items s1.device carried.steps at (carried.found (last.was_honest h) at s1.device (same_none g.O.Outside.ours s1.device));
            named = λ h k. subst (λ (ss : List Step). NamedBy g.opening.named ss d2.named) (sym whole) (named_last g.opening ready done (logs_of performed.items) d2 carried.opened (over h k));
          };
          part = passed_weaker _ from from _ _ _ (made performed.items) _ _ (omega arith) (λ d k. k) (λ d k. k) (passed_knowing _ from _ (RunEnd g.opening) _ _ _ (λ k d at. since_any g.opening (world_shown done) _ (unlisted k) at) (passed_after _ _ _ _ _ _ _ _ s2 _ last.was_honest here c.in_ok-conclude.ensures.part));
        };
        runs = subst (λ (ss : List Step). IsRun old options stream ss unfit.items) (sym whole) proposed.run;
        moved = c.in_ok-unfit.ensures.moved;
      };
    }
