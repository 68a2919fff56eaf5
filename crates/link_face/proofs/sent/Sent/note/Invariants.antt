use Rattle.std.proofs.Common.{◌≡◌, length}
use Rattle.wire_reader.specs.Scanning.{scanned}
use Rattle.link_face.proofs.sent.Sent.note.Given as goal

abbrev pub invariant-loop-following : goal.invariant-loop-following
invariant-loop-following l = scanned l.self.scanner l.rest ≡ scanned l.fn.self.scanner l.fn.bytes

abbrev pub decreases-loop-following : goal.decreases-loop-following
decreases-loop-following l = length l.rest
