use Rattle.std.proofs.Common.{◌≡◌, ◌-◌, ◌++◌, [], All, false, length, drop}
use Rattle.runner.specs.Asking.{Comes, known_at}
use Rattle.runner.specs.Finding.{AreFoundSo, OfSame}
use Rattle.runner.specs.Parts.{Passed}
use Rattle.runner.proofs.Reported.{IsFitting}
use Rattle.runner.specs.Going.{BeforeStep, HasLogged, log_at, logs_of, made, plan_at, steps_of}
use Rattle.runner.proofs.steps.carry_out.Given as goal

abbrev pub ghost-advance : goal.ghost-advance
ghost-advance g a = g.opening

abbrev pub invariant-loop-number : goal.invariant-loop-number
invariant-loop-number g l =
    let start = g.O.Outside.opened l.fn.outside in
    let now = g.O.Outside.opened l.outside in
    record {
      opened : HasLogged start now (logs_of l.performed.items);
      steps : steps_of l.performed.items ++ drop (length (log_at now)) (plan_at now).steps ≡ drop (length (log_at start)) (plan_at start).steps;
      fits : All IsFitting l.performed.items;
      was_honest : g.O.Outside.honest l.outside → g.O.Outside.honest l.fn.outside;
      keywords : g.O.Outside.keywords l.outside ≡ g.O.Outside.keywords l.fn.outside;
      part : Passed (g.O.Outside.honest l.outside) (BeforeStep g.opening start l.is_resumed) (BeforeStep g.opening now l.is_resumed) (made l.performed.items) (g.O.Outside.seen l.fn.outside) (g.O.Outside.seen l.outside);
      first : l.performed.items ≡ [] → g.O.Outside.seen l.outside ≡ g.O.Outside.seen l.fn.outside;
      later : (l.performed.items ≡ [] → ⊥) → g.O.Outside.honest l.outside → BeforeStep g.opening start l.is_resumed (g.O.Outside.seen l.fn.outside).device → BeforeStep g.opening now false (g.O.Outside.seen l.outside).device;
      asked : Comes g.O.Outside.noted (known_at l.is_resumed start) (known_at l.is_resumed now) (g.O.Outside.asked l.fn.outside) (g.O.Outside.asked l.outside);
      found : g.O.Outside.honest l.outside → BeforeStep g.opening start l.is_resumed (g.O.Outside.seen l.fn.outside).device → OfSame g.O.Outside.ours (g.O.Outside.seen l.fn.outside).device (λ d. AreFoundSo (plan_at start) d l.performed.items);
    }

abbrev pub decreases-loop-number : goal.decreases-loop-number
decreases-loop-number g l = let opened = g.O.Outside.opened l.outside in length (plan_at opened).steps - length (log_at opened)
