use Rattle.std.proofs.Common.{◌≡◌, ◌≤◌, length}
use Rattle.std.specs.Prelude.{max}
use Rattle.imap_session.specs.Ends.{ends_of}
use Rattle.imap_link.specs.Buffers.{Passed, GoesOn}
use Rattle.imap_link.proofs.wire.Wire.wait.Given as goal

abbrev pub invariant-loop : goal.invariant-loop
invariant-loop g l = record {
  was_honest : g.L.Link.honest l.self.link → g.L.Link.honest l.fn.self.link;
  steady : g.L.Link.stops l.self.link ≡ g.L.Link.stops l.fn.self.link;
  late : length l.self.heard.unread ≤ max 4096 (length l.fn.self.heard.unread);
  passed : Passed l.uses (λ reported. g.S.ReplySink.took l.fn.sink reported l.sink) l.self.heard.read
      (λ text. g.L.Link.honest l.self.link → GoesOn (ends_of (g.L.Link.line l.fn.self.link) l.fn.self.heard.unread) (ends_of (g.L.Link.line l.self.link) l.self.heard.unread) text);
}
