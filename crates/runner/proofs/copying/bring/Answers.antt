use Rattle.std.proofs.Common.{◌≡◌, ◌+◌, [], true, false, refl, arith, drop, length}
use Rattle.std.proofs.lemmas.Grind.{common_steps}
use Rattle.std.proofs.lemmas.Result.{err_from_is_err_and}
use Rattle.runner.proofs.StepParts.{step_after}
use Rattle.runner.proofs.Finding.{made_fresh, made_sought}
use Rattle.rules.specs.declared.plan.Step.TheVariants as step
use Rattle.runner.specs.Asking.{copies_left}
use Rattle.runner.specs.Going.{log_at, plan_at}
use Rattle.runner.proofs.Asking.{comes_none, comes_then, freed, known_next, looked}
use Rattle.runner.proofs.copying.bring.Goals as goal

pub returns-in-None-clause-part : goal.returns-in-None-clause-part
returns-in-None-clause-part g c =
    let s1 = g.O.Outside.seen c.seek.new.outside in
    let rest = rw c.seek.ensures.opened at c.copy-in-None.ensures.part in
    let up : c.args.is_resumed ≡ true = grind (arith, common_steps) in
    rw up (step_after _ (g.O.Outside.opened c.args.outside.now) _ _ _ _ _ _ _ _ s1 _ _ c.copy-in-None.ensures.was_honest (rw c.in-None.is at c.in_ok-copy.ensures.part) rest)

pub returns-in-None-clause-found : goal.returns-in-None-clause-found
returns-in-None-clause-found g c =
    let up : c.args.is_resumed ≡ true = grind (arith, common_steps) in
    rw up (made_sought g.opening (g.O.Outside.opened c.args.outside.now) c.args.direction c.args.uid c.args.flags c.args.mark c.requires.1.1.0 c.copy-in-None.result _ _ (g.O.Outside.seen c.args.outside.now).device c.copy-in-None.ensures.was_honest c.copy-in-None.ensures.made (rw c.in-None.is at c.in_ok-copy.ensures.found))

pub returns-then-not-is_resumed-clause-found : goal.returns-then-not-is_resumed-clause-found
returns-then-not-is_resumed-clause-found g c =
    let down : c.args.is_resumed ≡ false = grind (arith, common_steps) in
    rw down (made_fresh g.opening (g.O.Outside.opened c.args.outside.now) c.args.direction c.args.uid c.args.flags c.args.mark c.requires.1.1.0 c.copy.result _ (g.O.Outside.seen c.args.outside.now).device c.copy.ensures.made)

pub returns-in-Some-clause-part : goal.returns-in-Some-clause-part
returns-in-Some-clause-part g c =
    let up : c.args.is_resumed ≡ true = grind (arith, common_steps) in
    rw up (rw c.in-Some.is at c.in_ok-copy.ensures.part)

pub returns-then-not-is_resumed-clause-asked : goal.returns-then-not-is_resumed-clause-asked
returns-then-not-is_resumed-clause-asked g c =
    let opened = g.O.Outside.opened c.args.outside.now in
    let down : c.args.is_resumed ≡ false = grind (arith, common_steps) in
    rw (down, known_next opened (step.New c.args.direction c.args.uid c.args.flags c.args.mark) c.requires.1.1.0)
    (c.copy.ensures.asked (copies_left false (drop (length (log_at opened) + 1) (plan_at opened).steps)))

pub returns-in_err-copy-clause-asked : goal.returns-in_err-copy-clause-asked
returns-in_err-copy-clause-asked g c =
    let e = err_from_is_err_and c.from_residual.result c.from_residual.ensures.1 in
    (_, comes_none g.O.Outside.noted _ _ _ c.in_err-copy.ensures.asked, rw e.1 tt)

pub returns-in-Some-clause-asked : goal.returns-in-Some-clause-asked
returns-in-Some-clause-asked g c =
    let up : c.args.is_resumed ≡ true = grind (arith, common_steps) in
    rw up (_, looked g.O.Outside.noted _ _ _ _ _ _ _ c.in_ok-copy.ensures.asked, refl)

pub returns-in-None-clause-asked : goal.returns-in-None-clause-asked
returns-in-None-clause-asked g c =
    let up : c.args.is_resumed ≡ true = grind (arith, common_steps) in
    let first = freed g.O.Outside.noted (plan_at (g.O.Outside.opened c.args.outside.now)) _ c.args.mark _ _ (rw c.in-None.is at c.in_ok-copy.ensures.asked) in
    let rest = rw c.seek.ensures.opened at c.copy-in-None.ensures.asked [] in
    rw up (rest.0, comes_then g.O.Outside.noted _ _ _ _ _ _ first rest.1, rest.2)
