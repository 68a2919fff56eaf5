use Rattle.std.proofs.Common.{rules, tests}
use Rattle.guarded.proofs.Asking.{let_on_removal, listed_removal, refused_removal}
use Rattle.guarded.proofs.Stops.{stops_change}
use Rattle.guarded.proofs.guarded_outside.GuardedOutsideOutside.expunge.Goals as goal

pub returns-then-not-may_change-clause-call : goal.returns-then-not-may_change-clause-call
returns-then-not-may_change-clause-call g c = stops_change _ g.O.Outside.ours g.O.Outside.alone _ _ _ _ _ c.stop_refused.ensures.fault c.stop_refused.ensures.stopped

pub returns-then-not-may_change-clause-asked : goal.returns-then-not-may_change-clause-asked
returns-then-not-may_change-clause-asked g c =
    refused_removal g.G.Guard.asked g.G.Guard.goes_on _ _ _ _ c.may_change.new.self _ _ _ c.may_change.ensures.asked c.stop_refused.ensures.stopped (λ _. tt)

pub returns-then-asks_far-clause-asked : goal.returns-then-asks_far-clause-asked
returns-then-asks_far-clause-asked g c =
    listed_removal g.G.Guard.asked g.G.Guard.goes_on _ _ _ _ c.may_change.new.self _ _ _ _ c.may_change.ensures.asked (search (rules, tests)) (search (rules, tests)) c.expunge_listed.ensures.listed

pub returns-clause-asked : goal.returns-clause-asked
returns-clause-asked g c =
    let_on_removal g.G.Guard.asked g.G.Guard.goes_on _ _ _ _ c.may_change.new.self _ _ _ c.may_change.ensures.asked (search (rules, tests)) (search (rules, tests))
