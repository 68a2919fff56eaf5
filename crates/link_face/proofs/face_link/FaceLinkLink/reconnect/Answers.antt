use Rattle.std.proofs.Common.{◌∙◌, sym}
use Rattle.link_face.proofs.Speaking.{restarts_speak}
use Rattle.link_face.proofs.LinkLemmas.{still_speaks}
use Rattle.link_face.proofs.face_link.FaceLinkLink.reconnect.Goals as goal

pub invariant_of-self : goal.invariant_of-self
invariant_of-self g c =
    let made = c.reconnect-answer in
    record {
      hears = λ is_open honest same.
          still_speaks _ c.clear.new.self.incoming (g.L.Link.line made.new.self) c.clear.ensures.incoming
          (restarts_speak (g.L.Link.line c.args.self.now.link) (g.L.Link.line made.new.self) (g.L.Link.honest made.new.self) made.result made.ensures.ok (sym c.is_ok-self.ensures.value ∙ is_open) honest);
    }
