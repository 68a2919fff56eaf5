use Rattle.std.proofs.lemmas.Result.{err_from_is_err_and}
use Rattle.runner.proofs.StepParts.{next_reported, unrefused_reported}
use Rattle.runner.proofs.PartCalls.{add_none, left_after, left_reported, passed_after, passed_weaker}
use Rattle.std.proofs.Common.{◌∙◌}
use Rattle.runner.proofs.Asking.{known_logged}
use Rattle.runner.proofs.steps.advance.Goals as goal

pub returns-in_err-result-clause-part : goal.returns-in_err-result-clause-part
returns-in_err-result-clause-part g c =
    let e = err_from_is_err_and c.from_residual.result c.from_residual.ensures.1 in
    rw (e.1, e.2) (left_reported _ _ _ _ _ _ _ _ (next_reported _ (g.O.Outside.opened c.args.outside.now) _ _ _ _ c.requires.1.0.untorn c.requires.1.1.0 c.perform.ensures.opened) c.in_err-result.ensures.part)

pub returns-in_err-log-clause-part : goal.returns-in_err-log-clause-part
returns-in_err-log-clause-part g c =
    let e = err_from_is_err_and c.from_residual-in_err-log.result c.from_residual-in_err-log.ensures.1 in
    let s1 = g.O.Outside.seen c.perform.new.outside in
    let rest = rw c.perform.ensures.opened at c.in_err-log.ensures.part in
    rw (e.1, e.2) (left_reported _ _ _ _ _ _ _ _ (unrefused_reported _ _ (λ step n. n)) (left_after _ _ _ _ _ _ _ _ s1 _ c.in_err-log.ensures.was_honest c.in_ok-result.ensures.part rest))

pub returns-clause-part : goal.returns-clause-part
returns-clause-part g c =
    let s1 = g.O.Outside.seen c.perform.new.outside in
    let rest = rw c.perform.ensures.opened at c.in_ok-log.ensures.part in
    let both = passed_after _ _ _ _ _ _ _ _ s1 _ c.in_ok-log.ensures.was_honest c.in_ok-result.ensures.part rest in
    passed_weaker _ _ _ _ _ _ _ _ _ (add_none _) (λ d k. k) (λ d k. k) both

pub returns-clause-found : goal.returns-clause-found
returns-clause-found g c = λ h k d same. c.in_ok-result.ensures.found (c.in_ok-log.ensures.was_honest h) k d same

pub returns-in_err-result-clause-asked : goal.returns-in_err-result-clause-asked
returns-in_err-result-clause-asked g c =
    let e = err_from_is_err_and c.from_residual.result c.from_residual.ensures.1 in
    let did = c.perform.ensures.asked in
    (did.0, did.1, rw e.1 tt)

pub returns-in_err-log-clause-asked : goal.returns-in_err-log-clause-asked
returns-in_err-log-clause-asked g c =
    let e = err_from_is_err_and c.from_residual-in_err-log.result c.from_residual-in_err-log.ensures.1 in
    let did = c.perform.ensures.asked in
    rw c.log.ensures.asked (did.0, did.1, rw e.1 tt)

pub returns-clause-asked : goal.returns-clause-asked
returns-clause-asked g c =
    let did = c.in_ok-result.ensures.asked in
    let opened = g.O.Outside.opened c.args.outside.now in
    rw c.log.ensures.asked (did.0, did.1, did.2 ∙ known_logged c.args.is_resumed opened _ _ (rw c.perform.ensures.opened at c.in_ok-log.ensures.opened))
