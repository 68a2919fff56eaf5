use Rattle.guarded.proofs.Stops.{stops_begin}
use Rattle.guarded.proofs.begin_if.refuse.Goals as goal

pub returns-clause-call : goal.returns-clause-call
returns-clause-call g c = stops_begin _ g.O.Outside.ours g.O.Outside.alone _ _ _ _ _ c.stop.ensures.fault c.stop.ensures.stopped
