use Rattle.std.proofs.Common.{◌≡◌}
use Rattle.mem_link.specs.MemLinks.{stops_of}
use Rattle.mem_link.proofs.acts.act_before.Given as goal

-- whatever was done, no call has stopped
abbrev pub invariant-loop-act : goal.invariant-loop-act
invariant-loop-act l = stops_of l.link ≡ stops_of l.fn.link
