use Rattle.std.proofs.Common.{◌≡◌, ◌≤◌, ◌+◌, ℕ, List, ap, arith, refl, rules, subst, sym, ◌∙◌}
use Rattle.std.proofs.lemmas.Result.{err_from_is_err_and}
use Rattle.mailcore.specs.declared.keywords.Keyword.{Keyword}
use Rattle.run_states.specs.Conditions.{Underway}
use Rattle.run_states.specs.Openings.{Opening}
use Rattle.runner.specs.declared.fault.RunFault.TheVariants as run
use Rattle.runner.specs.Answers.{RunEnd, Inputs, ReadPassStart, run_of}
use Rattle.runner.specs.Maps.{HasOtherMapIn, by_map}
use Rattle.runner.specs.PassStages.{ReadStage, plan_reasons}
use Rattle.runner.proofs.PartCalls.{left_here, left_reported, left_weaker, part_after, part_by, part_reported, passed_weaker, passed_with}
use Rattle.runner.proofs.Finding.{boxed_plan}
use Rattle.runner.proofs.StepParts.{refused_from, repeats_by}
use Rattle.runner.proofs.Passes.{boxed_book, boxed_other_map, boxed_run, boxed_runs, known_map}
use Rattle.runner.proofs.PlanFacts.{moved_none}
use Rattle.runner.proofs.Readings.{book_read, both_open}
use Rattle.runner.proofs.Validities.{same_reported}
use Rattle.runner.proofs.StageLemmas.{answer_after, drawn_left, frame_of, frame_then}
use Rattle.runner.specs.Asking.{read_back}
use Rattle.runner.proofs.Asking.{asks_after, asks_along, asks_none}
use Rattle.runner.proofs.run.open_and_work.Goals as goal

pub open_boxes-requires : goal.open_boxes-requires
open_boxes-requires g c κs within = (search rules, book_read (g.O.Outside.opened c.args.outside.now) c.requires.1.1.1.0)

pub same_map-requires : goal.same_map-requires
same_map-requires g c =
    let old = g.O.Outside.opened c.args.outside.now in
    let is = c.in_ok-open_boxes.ensures.opened in
    record { read = rw is.opened (book_read _ (boxed_book is.far is.near old c.requires.1.1.1.0)) }

pub work-requires : goal.work-requires
work-requires g c κs within =
    let old = g.O.Outside.opened c.args.outside.now in
    let is = c.in_ok-open_boxes.ensures.opened in (
      search rules,
      (
        search rules,
        (
          search rules,
          (
            rw is.opened (boxed_book is.far is.near old c.requires.1.1.1.0),
            (rw is.opened (both_open is.far is.near old (book_read old c.requires.1.1.1.0)), (rw is.opened (rw (boxed_run is.far is.near old) c.requires.1.1.1.1.0), (c.in_ok-same_map.ensures.same, sym (c.open_boxes.ensures.keywords ∙ c.requires.1.1.1.1.1)))),
          ),
        ),
      ),
    )

pub returns-in_err-open_boxes : goal.returns-in_err-open_boxes
returns-in_err-open_boxes g c =
    let e = err_from_is_err_and c.from_residual.result c.from_residual.ensures.1 in
    let frame = frame_of g.O.Outside _ _ c.in_err-open_boxes.ensures.was_honest c.in_err-open_boxes.ensures.keywords in
    rw (e.1, e.2) (record { stage = drawn_left g.O.Outside g.opening _ _ _ _ _ _ _ _ _ _ frame (asks_none g.O.Outside.noted _ _ _ c.open_boxes.ensures.asked) (moved_none _) (left_reported _ _ _ _ _ _ _ _ (record { changed = λ side t. t; keywords = λ n. absurd n; repeats = λ n. absurd n; beyond = λ n. n; greatest = λ n. n; unread = λ e n. n; refused = λ step n. absurd n }) (left_weaker _ _ _ _ _ _ _ (λ d k. k.known) c.in_err-open_boxes.ensures.part)) })

pub returns-in_err-same_map : goal.returns-in_err-same_map
returns-in_err-same_map g c =
    let e = err_from_is_err_and c.from_residual-in_err-same_map.result c.from_residual-in_err-same_map.ensures.1 in
    let keywords = c.args.options.now.keywords in
    let old = g.O.Outside.opened c.args.outside.now in
    let s0 = g.O.Outside.seen c.args.outside.now in
    let s1 = g.O.Outside.seen c.open_boxes.new.outside in
    let boxes = c.in_ok-open_boxes.ensures in
    let reported = c.in_err-same_map.ensures.other in
    let is = boxes.opened in
    let other : HasOtherMapIn keywords old = boxed_other_map is.far is.near keywords old (subst (HasOtherMapIn keywords) is.opened reported.1) in
    let frame = frame_of g.O.Outside _ _ boxes.was_honest boxes.keywords in
    let ready = passed_weaker _ _ (ReadPassStart g.opening old (run_of old + 1) c.args.options.now (g.R.Rng.stream c.args.rng.now)) _ (Underway g.opening) _ 0 _ s1 refl (λ d k. k.known) (λ d k. k.underway) boxes.part in
    rw (e.1, e.2, reported.0) (record { stage = drawn_left g.O.Outside g.opening _ _ _ _ _ _ _ _ _ _ frame (asks_none g.O.Outside.noted _ _ _ c.open_boxes.ensures.asked) (moved_none _) (left_here _ _ (Underway g.opening) (Underway g.opening) 0 run.KeywordsChanged s0 s1 ready (other, (reported.1, boxes.kept)) (λ k. k)) })

pub returns : goal.returns
returns g c =
    let ours = g.O.Outside.ours in
    let alone = g.O.Outside.alone in
    let old = g.O.Outside.opened c.args.outside.now in
    let new = g.O.Outside.opened c.open_boxes.new.outside in
    let s0 = g.O.Outside.seen c.args.outside.now in
    let s1 = g.O.Outside.seen c.open_boxes.new.outside in
    let s2 = g.O.Outside.seen c.work.new.outside in
    let run = run_of old + 1 in
    let options = c.args.options.now in
    let stream = g.R.Rng.stream c.args.rng.now in
    let drawn = g.R.Rng.stream c.work.new.rng in
    let here = by_map options.keywords g.opening in
    let boxes = c.in_ok-open_boxes.ensures in
    let is = boxes.opened in
    let with = passed_with ((run ≤ g.opening.world.state.run + 1) × Inputs g.opening options stream) _ _ _ _ _ _ boxes.part in
    let ready = passed_weaker _ _ (ReadPassStart g.opening old run options stream) _ (ReadPassStart g.opening new run options stream) _ 0 _ s1 refl (λ d k. ((k.most, k.asked), k.known)) (λ d k. record { most = k.0.0; asked = k.0.1; known = k.1 }) with in
    let as_many : run_of new ≡ run_of old = rw is.opened (boxed_run is.far is.near old) in
    let same : g.O.Outside.honest c.work.new.outside → ReadPassStart g.opening new run options stream s1.device → here ≡ g.opening
    = (λ h k. let m = k.most in ap (λ (x : List Keyword). by_map x g.opening) (sym (known_map g.opening new options stream s1.device (omega (arith, as_many, m)) c.in_ok-same_map.ensures.same k.asked k.known))) in
    let there : g.O.Outside.honest c.work.new.outside → ReadPassStart g.opening new run options stream s1.device → ReadPassStart here new run options stream s1.device
    = (λ h k. subst (λ (o : Opening ours alone). ReadPassStart o new run options stream s1.device) (sym (same h k)) k) in
    let worked = subst (λ (n : ℕ). ReadStage g.O.Outside here (n + 1) options stream drawn (plan_reasons g.O.Outside c.open_boxes.new.outside c.work.new.outside) (RunEnd here) c.open_boxes.new.outside c.work.new.outside c.work.result) as_many c.work.ensures.stage in
    let stage = worked.stage in
    let frame = stage.frame in
    let leads : g.O.Outside.honest c.work.new.outside → ReadPassStart g.opening old run options stream s0.device → ReadPassStart here new run options stream s1.device × (here ≡ g.opening) = (λ h at. let k = ready.reaches (frame.was_honest h) at in (there h k, same h k)) in
    record {
      stage = record {
        stage = record {
          frame = frame_then g.O.Outside _ _ _ (frame_of g.O.Outside _ _ boxes.was_honest boxes.keywords) frame;
          asked = asks_after g.O.Outside.noted _ _ _ _ c.open_boxes.ensures.asked (asks_along g.O.Outside.noted _ _ _ _ (ap read_back (rw is.opened (boxed_plan is.far is.near old))) stage.asked);
          answer = answer_after g.O.Outside here g.opening run _ _ c.args.outside.now c.open_boxes.new.outside c.work.new.outside c.work.result frame.was_honest boxes.opened boxes.same (λ h. let k = boxes.kept h in k.1.named) leads stage.answer;
          part = part_after _ _ _ _ _ _ _ _ _ s1 _ _ frame.was_honest ready
              (part_reported _ _ _ _ _ _ _ _ _ _ (record {
                changed = λ side t. (same_reported _ _ _ old new s0.device s1.device s2.device side frame.was_honest boxes.opened boxes.kept t.0, t.1);
                keywords = λ n. absurd n;
                repeats = λ k. repeats_by here g.opening _ _ _ _ options stream leads k;
                beyond = λ n. n;
                greatest = λ n. n;
                unread = λ e n. n;
                refused = refused_from _ _ _ _ _ (λ h at. (leads h at).0);
              })
              (part_by here g.opening _ _ (λ o. ReadPassStart o new run options stream) (λ o. Underway o) (λ o. RunEnd o) _ s1 _ same c.work.result stage.part));
        };
        runs = boxed_runs is.far is.near old _ _ c.work.result (rw (← is.opened) worked.runs);
        moved = worked.moved;
      };
    }
