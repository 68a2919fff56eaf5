use Rattle.std.proofs.Common.{◌≡◌, ◌++◌, ℕ, List, length}
use Rattle.std.specs.Prelude.{max}
use Rattle.imap_session.specs.Ends.{ends_of}
use Rattle.imap_link.specs.Buffers.{Keeps, OneMore}
use Rattle.imap_link.proofs.wire.Wire.whole.Given as goal

abbrev pub invariant-loop : goal.invariant-loop
invariant-loop g l = record {
  was_honest : g.L.Link.honest l.self.link → g.L.Link.honest l.fn.self.link;
  steady : g.L.Link.stops l.self.link ≡ g.L.Link.stops l.fn.self.link;
  same : g.L.Link.honest l.self.link → Keeps (ends_of (g.L.Link.line l.fn.self.link) l.fn.self.heard.unread) (ends_of (g.L.Link.line l.self.link) l.self.heard.unread);
  read : l.self.heard.read ≡ l.fn.self.heard.read;
  late : OneMore (max 4096 (length l.fn.self.heard.unread)) l.self.heard.unread;
}
