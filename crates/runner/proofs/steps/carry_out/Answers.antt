use Rattle.std.proofs.Common.{◌≡◌, subst, List, [], ◌∷◌, ◌++◌, refl, sym, ◌∙◌, ap, append-nil, Some, None}
use Rattle.std.proofs.lemmas.List.Elements.{All-push}
use Rattle.std.proofs.lemmas.Result.{err_from_is_err_and}
use Rattle.rules.specs.declared.plan.Step.{Step}
use Rattle.run_states.proofs.NextSteps.{drop_none}
use Rattle.runner.specs.Going.{log_at, next_at, plan_at, steps_of}
use Rattle.runner.proofs.StepParts.{refused_from, steps_reported}
use Rattle.runner.proofs.PartCalls.{left_after, left_here, passed_after, passed_weaker, left_reported}
use Rattle.runner.proofs.Stages.{either_ready, ready_underway}
use Rattle.runner.proofs.Finding.{found_next, not_none}
use Rattle.runner.proofs.LoopLemmas.{made_more, logged_on, steps_on, less_left}
use Rattle.runner.proofs.Reported.{IsFitting}
use Rattle.runner.specs.Asking.{Comes, Known, known_at}
use Rattle.runner.proofs.Asking.{comes_then}
use Rattle.runner.proofs.steps.carry_out.Goals as goal

pub returns-in_default-try_reserve-clause-part : goal.returns-in_default-try_reserve-clause-part
returns-in_default-try_reserve-clause-part g c =
    left_here _ _ _ _ _ _ _ _ c.loop-number.invariant.part tt (ready_underway g.opening (g.O.Outside.opened c.loop-number.outside) c.args.is_resumed _)

pub returns-in_err-one-clause-part : goal.returns-in_err-one-clause-part
returns-in_err-one-clause-part g c =
    let e = err_from_is_err_and c.from_residual.result c.from_residual.ensures.1 in
    let s1 = g.O.Outside.seen c.loop-number.outside in
    let i = c.loop-number.invariant in
    rw (e.1, e.2) (left_after _ _ _ _ _ _ _ _ s1 _ c.in_err-one.ensures.was_honest i.part
    (left_reported _ _ _ _ _ _ _ _ (steps_reported _ _ (refused_from _ _ _ _ _ (λ h at. let before = i.part in before.reaches (c.in_err-one.ensures.was_honest h) at))) c.in_err-one.ensures.part))

pub loop-number-smaller : goal.loop-number-smaller
loop-number-smaller g c =
    let b = g.O.Outside.opened c.loop-number.outside in
    let is : next_at b ≡ Some c.in_ok-one.one.step = rw c.in_ok-one.ensures.step c.in-Some.ensures.1 in
    less_left b (g.O.Outside.opened c.advance.new.outside) c.in_ok-one.one c.in_ok-one.ensures.opened is

pub loop-number-preserved : goal.loop-number-preserved
loop-number-preserved g c =
    let i = c.loop-number.invariant in
    let one = c.in_ok-one.ensures in
    let start = g.O.Outside.opened c.args.outside.now in
    let b = g.O.Outside.opened c.loop-number.outside in
    let s1 = g.O.Outside.seen c.loop-number.outside in
    let ps = c.loop-number.performed.items in
    let p = c.in_ok-one.one in
    let is : next_at b ≡ Some p.step = rw one.step c.in-Some.ensures.1 in
    let pushed : c.push.new.self.items ≡ ps ++ p ∷ [] = rw (← c.try_reserve.ensures.items) c.in-Ok-push.ensures.items in
    let went = passed_weaker _ _ _ _ _ _ _ _ _ refl (λ d k. k) (either_ready g.opening (g.O.Outside.opened c.advance.new.outside) c.args.is_resumed) one.part in
    rw pushed (record {
      opened = logged_on start b _ ps p i.opened one.opened;
      steps = steps_on b _ ps p _ one.opened is i.steps;
      fits = All-push IsFitting ps p i.fits one.fits;
      was_honest = λ h. i.was_honest (one.was_honest h);
      keywords = one.keywords ∙ i.keywords;
      part = rw (← made_more ps p) (passed_after _ _ _ _ _ _ _ _ s1 _ one.was_honest i.part went);
      asked = let did = one.asked in comes_then g.O.Outside.noted _ _ _ _ _ _ i.asked (subst (λ (k : Known). Comes g.O.Outside.noted (known_at c.args.is_resumed b) k (g.O.Outside.asked c.loop-number.outside) (g.O.Outside.asked c.advance.new.outside)) did.2 did.1);
      first = λ e. absurd (not_none ps p e);
      later = λ e h k. let before = i.part in let after = one.part in after.reaches h (before.reaches (one.was_honest h) k);
      found = λ h k. let before = i.part in found_next g.opening start b c.args.is_resumed ps p (g.O.Outside.seen c.args.outside.now) s1 i.opened is i.first (λ e. i.later e (one.was_honest h) k) (before.reaches (one.was_honest h) k) (i.found (one.was_honest h) k) (one.found h);
    })

pub returns-clause-steps : goal.returns-clause-steps
returns-clause-steps g c =
    let i = c.loop-number.invariant in
    let o = g.O.Outside.opened c.loop-number.outside in
    let none : next_at o ≡ None = c.in_default.ensures in
    sym (append-nil _) ∙ ap (λ (l : List Step). steps_of c.loop-number.performed.items ++ l) (sym (drop_none (plan_at o).steps (log_at o) none)) ∙ i.steps

pub returns-in_err-one-clause-asked : goal.returns-in_err-one-clause-asked
returns-in_err-one-clause-asked g c =
    let i = c.loop-number.invariant in
    let did = c.advance.ensures.asked in
    (did.0, comes_then g.O.Outside.noted _ _ _ _ _ _ i.asked did.1)
