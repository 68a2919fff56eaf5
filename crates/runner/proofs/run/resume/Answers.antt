use Rattle.std.proofs.Common.{◌≡◌, ap, arith, rules, subst, sym, ◌∙◌}
use Rattle.rules.specs.declared.plan.Plan.{Plan}
use Rattle.run_states.specs.Plans.{NamedBy}
use Rattle.runner.specs.Before.{Resumed}
use Rattle.runner.specs.Finding.{AreFoundSo}
use Rattle.runner.specs.Going.{log_at, logs_of, made, plan_at}
use Rattle.runner.specs.Results.{EndsBy}
use Rattle.std.proofs.lemmas.Result.{err_from_is_err_and}
use Rattle.book.specs.Books.{mended}
use Rattle.outside.specs.Opened.{turned}
use Rattle.runner.proofs.StepParts.{left_never, refused_from, steps_reported}
use Rattle.runner.proofs.PartCalls.{left_after, left_reported, passed_after, passed_weaker}
use Rattle.runner.proofs.Passes.{book_few, finished_answers, mended_book, mended_going, mended_rest, takes_commit}
use Rattle.runner.proofs.Reported.{named_last, reported, reported_rest}
use Rattle.runner.proofs.Finding.{mended_plan, same_then}
use Rattle.runner.proofs.StageLemmas.{frame_of, frame_then, stage_left}
use Rattle.runner.specs.Asking.{read_back}
use Rattle.runner.proofs.Asking.{asks_after, asks_along, asks_before, asks_none}
use Rattle.runner.proofs.run.resume.Goals as goal

pub carry_out-requires : goal.carry_out-requires
carry_out-requires g c κs within = (search rules, (search rules, (rw c.in_ok-untear.ensures.opened (mended_going (g.O.Outside.opened c.args.outside.now) c.requires.1.1.1.0 c.requires.1.1.1.1.0), ((let p = c.in_ok-untear.ensures.part in p.is_whole), c.requires.1.1.1.1.1 ∙ sym c.untear.ensures.keywords))))

pub conclude-requires : goal.conclude-requires
conclude-requires g c κs within =
    let h = c.in_ok-performed.ensures.opened in
    let old = g.O.Outside.opened c.args.outside.now in (
      search rules,
      (
        h.going,
        (
          takes_commit (g.O.Outside.opened c.untear.new.outside) (g.O.Outside.opened c.carry_out.new.outside) c.in_ok-performed.performed.items (rw c.in_ok-untear.ensures.opened (book_few (turned mended old) (mended_book old c.requires.1.1.0))) h c.in_ok-performed.ensures.steps,
          c.in_ok-performed.ensures.ended,
        ),
      ),
    )

pub returns-in_err-untear : goal.returns-in_err-untear
returns-in_err-untear g c =
    let e = err_from_is_err_and c.from_residual.result c.from_residual.ensures.1 in
    let frame = frame_of g.O.Outside _ _ c.in_err-untear.ensures.was_honest c.in_err-untear.ensures.keywords in
    rw (e.1, e.2) (record { stage = stage_left g.O.Outside g.opening _ _ _ _ _ _ _ frame (asks_none g.O.Outside.noted _ _ _ c.untear.ensures.asked) (left_never _ _ _ _ _ _ c.in_err-untear.ensures.part) })

pub returns-in_err-performed : goal.returns-in_err-performed
returns-in_err-performed g c =
    let e = err_from_is_err_and c.from_residual-in_err-performed.result c.from_residual-in_err-performed.ensures.1 in
    let s1 = g.O.Outside.seen c.untear.new.outside in
    let honest = c.in_err-performed.ensures.was_honest in
    let untorn = c.in_ok-untear.ensures in
    let part = untorn.part in
    let frame = frame_then g.O.Outside _ _ _ (frame_of g.O.Outside _ _ untorn.was_honest untorn.keywords) (frame_of g.O.Outside _ _ honest c.in_err-performed.ensures.keywords) in
    rw (e.1, e.2) (record { stage = stage_left g.O.Outside g.opening _ _ _ _ _ _ _ frame (asks_after g.O.Outside.noted _ _ _ _ c.untear.ensures.asked (asks_along g.O.Outside.noted _ _ _ _ (ap read_back (rw c.in_ok-untear.ensures.opened (mended_plan (g.O.Outside.opened c.args.outside.now)))) c.carry_out.ensures.asked)) (left_after _ _ _ _ _ _ _ _ s1 _ honest part (left_reported _ _ _ _ _ _ _ _ (steps_reported _ _ (refused_from _ _ _ _ _ (λ h at. part.reaches (honest h) at))) c.in_err-performed.ensures.part)) })

pub returns-in_err-conclude : goal.returns-in_err-conclude
returns-in_err-conclude g c =
    let e = err_from_is_err_and c.from_residual-in_err-conclude.result c.from_residual-in_err-conclude.ensures.1 in
    let s1 = g.O.Outside.seen c.untear.new.outside in
    let s2 = g.O.Outside.seen c.carry_out.new.outside in
    let untorn = c.in_ok-untear.ensures in
    let carried = c.in_ok-performed.ensures in
    let last = c.in_err-conclude.ensures.frame in
    let so_far = passed_after _ _ _ _ _ _ _ _ s1 _ carried.was_honest untorn.part carried.part in
    let frame = frame_then g.O.Outside _ _ _ (frame_then g.O.Outside _ _ _ (frame_of g.O.Outside _ _ untorn.was_honest untorn.keywords) (frame_of g.O.Outside _ _ carried.was_honest carried.keywords)) last in
    rw (e.1, e.2) (record { stage = stage_left g.O.Outside g.opening _ _ _ _ _ _ _ frame (asks_after g.O.Outside.noted _ _ _ _ c.untear.ensures.asked (asks_before g.O.Outside.noted _ _ _ _ (asks_along g.O.Outside.noted _ _ _ _ (ap read_back (rw c.in_ok-untear.ensures.opened (mended_plan (g.O.Outside.opened c.args.outside.now)))) c.carry_out.ensures.asked) c.conclude.ensures.asked)) (left_never _ _ _ _ _ _ (left_after _ _ _ _ _ _ _ _ s2 _ last.was_honest so_far c.in_err-conclude.ensures.part)) })

pub returns : goal.returns
returns g c =
    let old = g.O.Outside.opened c.args.outside.now in
    let ready = g.O.Outside.opened c.untear.new.outside in
    let done = g.O.Outside.opened c.carry_out.new.outside in
    let new = g.O.Outside.opened c.conclude.new.outside in
    let d0 = (g.O.Outside.seen c.args.outside.now).device in
    let s1 = g.O.Outside.seen c.untear.new.outside in
    let s2 = g.O.Outside.seen c.carry_out.new.outside in
    let d2 = (g.O.Outside.seen c.conclude.new.outside).device in
    let untorn = c.in_ok-untear.ensures in
    let carried = c.in_ok-performed.ensures in
    let performed = c.in_ok-performed.performed in
    let last = c.in_ok-conclude.ensures.frame in
    let concluded = c.in_ok-conclude.ensures.concluded in
    let part = untorn.part in
    let from = Resumed g.opening old in
    let so_far = passed_after _ _ _ _ _ _ _ _ s1 _ carried.was_honest part carried.part in
    let same : plan_at ready ≡ plan_at old = rw untorn.opened (mended_plan old) in
    let over : g.O.Outside.honest c.conclude.new.outside → from d0 → EndsBy g.opening (plan_at done) (log_at done) d2 = (λ h k. concluded.ends h (so_far.reaches (last.was_honest h) k)) in
    record {
      stage = record {
        frame = frame_then g.O.Outside _ _ _ (frame_then g.O.Outside _ _ _ (frame_of g.O.Outside _ _ untorn.was_honest untorn.keywords) (frame_of g.O.Outside _ _ carried.was_honest carried.keywords)) last;
        asked = asks_after g.O.Outside.noted _ _ _ _ c.untear.ensures.asked (asks_before g.O.Outside.noted _ _ _ _ (asks_along g.O.Outside.noted _ _ _ _ (ap read_back (rw c.in_ok-untear.ensures.opened (mended_plan (g.O.Outside.opened c.args.outside.now)))) c.carry_out.ensures.asked) c.conclude.ensures.asked);
        answer = record {
          by_files = finished_answers old performed (mended_rest old performed.items c.requires.1.1.1.0 (rw (← untorn.opened) carried.steps));
          results = λ h. reported ready done new performed.items _ carried.opened carried.steps carried.fits concluded.committed (concluded.held h);
          reported = λ h k. reported_rest g.opening ready done performed.items _ carried.opened carried.steps (over h k);
          found = λ h k d to.
              let before = carried.was_honest (last.was_honest h) in
              subst (λ (p : Plan). AreFoundSo p d performed.items) same (carried.found (last.was_honest h) (part.reaches before k) d (same_then g.O.Outside.ours d d0 s1.device to (untorn.same before)));
          named = λ h k. subst (λ (p : Plan). NamedBy g.opening.named p.steps d2.named) same (named_last g.opening ready done (logs_of performed.items) d2 carried.opened (over h k));
        };
        part = passed_weaker _ from from _ _ _ (made performed.items) _ _ (omega arith) (λ d k. k) (λ d k. k) (passed_after _ _ _ _ _ _ _ _ s2 _ last.was_honest so_far c.in_ok-conclude.ensures.part);
      };
    }
