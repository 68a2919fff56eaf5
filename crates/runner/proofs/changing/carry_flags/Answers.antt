use Rattle.std.proofs.lemmas.Result.{err_from_is_err_and}
use Rattle.runner.proofs.PartCalls.{passed_after}
use Rattle.runner.proofs.StepParts.{step_left_after}
use Rattle.runner.proofs.Asking.{calls_then}
use Rattle.runner.proofs.changing.carry_flags.Goals as goal

pub returns-in_err-clear_flags-clause-part : goal.returns-in_err-clear_flags-clause-part
returns-in_err-clear_flags-clause-part g c =
    let e = err_from_is_err_and c.from_residual-in_err-clear_flags.result c.from_residual-in_err-clear_flags.ensures.1 in
    let s1 = g.O.Outside.seen c.set_flags.new.outside in
    let rest = rw c.set_flags.ensures.opened at c.in_err-clear_flags.ensures.part in
    rw (e.1, e.2) (step_left_after _ (g.O.Outside.opened c.args.outside.now) _ _ _ _ _ 0 _ _ s1 _ c.in_err-clear_flags.ensures.was_honest c.in_ok-set_flags.ensures.part rest)

pub returns-clause-part : goal.returns-clause-part
returns-clause-part g c =
    let s1 = g.O.Outside.seen c.set_flags.new.outside in
    let rest = rw c.set_flags.ensures.opened at c.in_ok-clear_flags.ensures.part in
    passed_after _ _ _ _ _ 0 0 _ s1 _ c.in_ok-clear_flags.ensures.was_honest c.in_ok-set_flags.ensures.part rest

pub returns-in_err-set_flags-clause-asked : goal.returns-in_err-set_flags-clause-asked
returns-in_err-set_flags-clause-asked g c = c.set_flags.ensures.asked

pub returns-in_err-clear_flags-clause-asked : goal.returns-in_err-clear_flags-clause-asked
returns-in_err-clear_flags-clause-asked g c = calls_then g.O.Outside.noted _ _ _ _ c.set_flags.ensures.asked c.clear_flags.ensures.asked

pub returns-clause-asked : goal.returns-clause-asked
returns-clause-asked g c = calls_then g.O.Outside.noted _ _ _ _ c.set_flags.ensures.asked c.clear_flags.ensures.asked
