use Rattle.std.proofs.Common.{◌≡◌}
use Rattle.mem_link.specs.MemLinks.{stops_of}
use Rattle.mem_link.proofs.loop_link.LoopLinkLink.send.Given as goal

-- no call has stopped
abbrev pub invariant-loop-piece : goal.invariant-loop-piece
invariant-loop-piece g l = stops_of l.self.far ≡ stops_of l.fn.self.far
