use Rattle.std.proofs.Common.{length, ◌-◌, ◌≤◌, take}
use Rattle.imap_server.specs.Unreads.{end_of}
use Rattle.imap_server.specs.Taking.{Took}
use Rattle.imap_server.proofs.service.Service.read.Given as goal

abbrev pub invariant-loop-done : goal.invariant-loop-done
invariant-loop-done l = Took (end_of l.fn.self l.fn.unread) (take l.done l.bytes) l.fn.out.items l.out.items l.self l.unread × (l.done ≤ length l.bytes)

abbrev pub decreases-loop-done : goal.decreases-loop-done
decreases-loop-done l = length l.bytes - l.done
