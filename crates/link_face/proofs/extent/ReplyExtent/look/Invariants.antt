use Rattle.std.proofs.Common.{◌≤◌}
use Rattle.link_face.specs.Extents.{IsSought}
use Rattle.link_face.proofs.extent.ReplyExtent.look.Given as goal

abbrev pub invariant-loop : goal.invariant-loop
invariant-loop l = record {
  sought : IsSought l.self l.bytes;
  far : l.counter ≤ l.self.scanned;
}
