use Rattle.guarded.proofs.Stops.{stops_change}
use Rattle.guarded.proofs.guarded_outside.GuardedOutsideOutside.remove_flags.Goals as goal

pub returns-then-not-may_change-clause-call : goal.returns-then-not-may_change-clause-call
returns-then-not-may_change-clause-call g c = stops_change _ g.O.Outside.ours g.O.Outside.alone _ _ _ _ _ c.stop_refused.ensures.fault c.stop_refused.ensures.stopped
