use Rattle.std.proofs.Common.{◌≡◌, ◌+◌, refl, arith}
use Rattle.std.proofs.lemmas.Result.{err_from_is_err_and}
use Rattle.run_states.specs.Conditions.{IsOver}
use Rattle.runner.specs.Answers.{Inputs, PassStart}
use Rattle.runner.specs.Attempts.{AttemptStart}
use Rattle.runner.proofs.Attempts.{asked_later, attempt_answers, attempt_changed, attempt_map, fixed_on, fixed_tried, never_beyond, none_reached, tried_fixed}
use Rattle.runner.proofs.PartCalls.{goes_on, left_mapped, left_reported, left_with, part_after, part_mapped, part_reported, part_with, passed_weaker, passed_with}
use Rattle.runner.proofs.Passes.{beyond_is_read}
use Rattle.runner.proofs.PlanFacts.{moved_none}
use Rattle.runner.proofs.StepParts.{refused_from, repeats_from}
use Rattle.runner.proofs.PassReports.{found_in, named_in, reported_in}
use Rattle.runner.proofs.Reported.{reported_from}
use Rattle.runner.proofs.Finding.{finds_tried}
use Rattle.runner.proofs.Naming.{names_tried}
use Rattle.runner.proofs.AttemptLemmas.{attempt_answer}
use Rattle.runner.proofs.StageLemmas.{frame_of, frame_then}
use Rattle.runner.proofs.Asking.{asks_then}
use Rattle.runner.proofs.settle.attempt.Goals as goal

pub returns-in_err-number : goal.returns-in_err-number
returns-in_err-number g c =
    let e = err_from_is_err_and c.from_residual.result c.from_residual.ensures.1 in
    let fixed = c.in_err-number.ensures in
    let none = fixed.unfixed.1 in
    rw (e.1, e.2) (record {
      attempt = record {
        frame = fixed.frame;
        answer = tt;
        number = record {
          reached = λ h at. none_reached c.fix_run.new.run _ none;
          greatest = fixed.greatest;
          unfixed = λ unfixed h s p held is. none;
        };
        moved = moved_none _;
        stuck = fixed.stuck;
        part = left_reported _ _ _ _ _ _ _ _ (record { changed = λ side n. absurd n; keywords = λ n. absurd n; repeats = λ n. absurd n; beyond = λ n. absurd n; greatest = λ n. n; unread = λ e t. t; refused = λ step n. absurd n }) (left_mapped _ _ _ _ _ _ _ _ (λ d k. (k.asked, k.tried)) (λ d k. record { asked = k.0; tried = k.1 }) (left_with (Inputs g.opening c.args.options.now (g.R.Rng.stream c.args.rng.now)) _ _ _ _ _ _ fixed.part));
      };
      asked = c.fix_run.ensures.asked;
    })

pub returns : goal.returns
returns g c =
    let ours = g.O.Outside.ours in
    let alone = g.O.Outside.alone in
    let options = c.args.options.now in
    let old = g.R.Rng.stream c.args.rng.now in
    let new = g.R.Rng.stream c.pass.new.rng in
    let n = c.in_ok-number.number in
    let s0 = g.O.Outside.seen c.args.outside.now in
    let s1 = g.O.Outside.seen c.fix_run.new.outside in
    let s2 = g.O.Outside.seen c.pass.new.outside in
    let number = c.in_ok-number.ensures in
    let fixed = number.fixed in
    let run = c.fix_run.new.run in
    let passed = c.pass.ensures in
    let honest = passed.was_honest in
    let result = c.pass.result in
    let part = number.part in
    let p : Type 0 = Inputs g.opening options old × (n ≡ g.opening.world.state.run + 1) in
    let with = passed_with (Inputs g.opening options old) _ _ _ _ _ _ part in
    let ready = passed_weaker _ _ (AttemptStart g.opening options old c.args.run.now) _ (λ d. p × PassStart g.opening n options old d) _ 0 _ s1 refl (λ d k. (k.asked, k.tried))
    (λ d k. let t = tried_fixed g.opening run n d fixed k.1 in ((k.0, t.0), record { most = omega (arith, t.0); asked = k.0; underway = t.1 })) with in
    let leads : g.O.Outside.honest c.pass.new.outside → AttemptStart g.opening options old c.args.run.now s0.device → PassStart g.opening n options old s1.device = (λ h at. (ready.reaches (honest h) at).1) in
    record {
      attempt = record {
        frame = frame_then g.O.Outside _ _ _ number.frame (frame_of g.O.Outside _ _ honest passed.keywords);
        answer = attempt_answer g.O.Outside g.opening options old c.args.run.now c.args.outside.now c.pass.new.outside result
            (attempt_answers g.opening _ _ options _ run n s0.device s1.device c.args.run.now result fixed honest number.kept part.reaches passed.answers)
            passed.results
            (reported_from result _ _ _ _ leads (reported_in g.opening _ _ _ _ _ _ result passed.reported))
            (finds_tried ours s0.device s1.device result _ _ _ _ honest leads (λ h. let k = number.kept h in k.files) number.same (found_in g.opening _ _ _ _ _ _ result passed.reported))
            (names_tried g.opening s0.device s1.device s2.device result _ _ _ _ honest leads number.kept (named_in g.opening _ _ _ _ _ _ result passed.reported));
        number = record {
          reached = λ h at. fixed_on run n _ _ fixed (goes_on _ _ _ _ _ _ _ _ result passed.part h).files (number.number (honest h) at);
          greatest = λ none h s p held is. absurd ((number.greatest none (honest h) s p held is).0);
          unfixed = λ none h s p held is. absurd ((number.greatest none (honest h) s p held is).0);
        };
        moved = passed.moved;
        stuck = λ b. absurd ((number.stuck b).0);
        part = part_after _ _ _ _ _ _ _ _ _ s1 _ _ honest ready
            (part_mapped _ _ _ _ _ (AttemptStart g.opening options new run) _ _ (λ x d. IsOver g.opening d) _ _ _ (λ d k. k)
            (λ d k. record { asked = asked_later g.opening options old new passed.moved k.0.0; tried = fixed_tried g.opening run n d fixed (k.0.1, k.1) })
            (λ x d k. let r = k.1 in let e = k.0.1 in r.done (omega (arith, e)))
            (part_with _ p _ _ _ _ _ _ _ _ (part_reported _ _ _ _ _ _ _ _ _ _ (record {
              changed = λ side t. (attempt_changed alone _ _ s0.device s1.device s2.device side honest number.kept t.0, t.1);
              keywords = λ t. attempt_map (g.O.Outside.opened c.pass.new.outside) alone _ _ options.keywords s0.device s1.device s2.device honest number.kept t;
              repeats = λ k. repeats_from g.opening _ _ _ _ options old leads k;
              beyond = λ b. (beyond_is_read _ n b.0, λ h at. never_beyond n s1.device (number.number (honest h) at) (b.1 h));
              greatest = λ n. absurd n;
              unread = λ e t. t;
              refused = refused_from _ _ _ _ _ leads;
            }) passed.part)));
      };
      asked = asks_then g.O.Outside.noted _ _ _ _ c.fix_run.ensures.asked c.pass.ensures.asked;
    }
