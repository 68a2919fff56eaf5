use Rattle.std.proofs.Common.{◌≡◌, false}
use Rattle.imap_session.specs.Servers.{Quiet}
use Rattle.link_face.specs.Faces.{faced, Keeps}
use Rattle.link_face.specs.Turning.{held_of}
use Rattle.link_face.proofs.face_link.FaceLink.wait.Given as goal

abbrev pub invariant-loop : goal.invariant-loop
invariant-loop g l = record {
  was_honest : g.L.Link.honest l.self.link → g.L.Link.honest l.fn.self.link;
  was_unchanged : l.self.face.renamed ≡ false → l.fn.self.face.renamed ≡ false;
  steady : g.L.Link.stops l.self.link ≡ g.L.Link.stops l.fn.self.link;
  own_steady : l.self.face.stops ≡ l.fn.self.face.stops;
  quiet : g.L.Link.honest l.self.link → Quiet (g.L.Link.line l.fn.self.link).end.server (g.L.Link.line l.self.link).end.server;
  same : g.L.Link.honest l.self.link → l.self.face.renamed ≡ false
      → Keeps (faced (held_of l.fn.self.face) (g.L.Link.line l.fn.self.link)) (faced (held_of l.self.face) (g.L.Link.line l.self.link));
  ready : l.self.face.ready ≡ l.fn.self.face.ready;
}
