use Rattle.std.proofs.Common.{◌≡◌, take}
use Rattle.imap_server.proofs.LastBytes.{PassedSoFar}
use Rattle.imap_server.proofs.dropped.Dropped.pass.Given as goal

abbrev pub invariant-loop-i : goal.invariant-loop-i
invariant-loop-i l = PassedSoFar l.initial.self.last (take l.i l.bytes) l.self.last × (l.self.fault ≡ l.initial.self.fault)
