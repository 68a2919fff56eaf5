use Rattle.std.proofs.Common.{refl}
use Rattle.std.proofs.lemmas.Result.{err_from_is_err_and}
use Rattle.runner.proofs.Attempts.{opening_tried, opening_underway, some_reached, tried_opening}
use Rattle.runner.proofs.PartCalls.{left_mapped, passed_weaker}
use Rattle.runner.proofs.Asking.{asks_none}
use Rattle.runner.proofs.settle.fix_run.Goals as goal

pub returns-in_err-number-clause-part : goal.returns-in_err-number-clause-part
returns-in_err-number-clause-part g c =
    let e = err_from_is_err_and c.from_residual.result c.from_residual.ensures.1 in
    rw (e.1, e.2) (left_mapped _ _ _ _ _ _ _ _ (λ d t. tried_opening g.opening _ d c.in_default.not-Some t) (λ d u. opening_tried g.opening _ d c.in_default.not-Some u) c.in_err-number.ensures.part)

pub returns-clause-part : goal.returns-clause-part
returns-clause-part g c =
    passed_weaker _ _ _ _ _ _ _ _ _ refl (λ d t. tried_opening g.opening _ d c.in_default.not-Some t) (λ d k. (k.0, opening_underway g.opening d k.1)) c.in_ok-number.ensures.part

pub returns-in-Some-clause-number : goal.returns-in-Some-clause-number
returns-in-Some-clause-number g c = λ h at. some_reached _ _ _ c.in-Some.is at

pub returns-in-Some-clause-asked : goal.returns-in-Some-clause-asked
returns-in-Some-clause-asked g c = asks_none g.O.Outside.noted _ _ _ refl

pub returns-in_err-number-clause-asked : goal.returns-in_err-number-clause-asked
returns-in_err-number-clause-asked g c = c.next_run.ensures.asked

pub returns-clause-asked : goal.returns-clause-asked
returns-clause-asked g c = c.next_run.ensures.asked
