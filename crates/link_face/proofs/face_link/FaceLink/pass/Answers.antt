use Rattle.std.proofs.Common.{◌∙◌, sym}
use Rattle.link_face.proofs.Speaking.{sends_speak}
use Rattle.link_face.proofs.face_link.FaceLink.pass.Goals as goal
use Rattle.link_face.proofs.face_link.FaceLink.pass.Goals.{then-was_open, else-was_open}

pub invariant_of-self : goal.invariant_of-self
invariant_of-self g c =
    let old = c.args.self.now in
    let sent = c.send-answer in
    record {
      hears = λ is_open honest same.
          elim c.if-was_open.branch [
            | then-was_open w ↦
                sends_speak g.L.Link.visitors old.face.incoming c.args.bytes.now (g.L.Link.line old.link) (g.L.Link.line sent.new.self) (g.L.Link.honest sent.new.self) sent.result sent.ensures.ok
                (sym w.is_ok-self.ensures.value ∙ sym w.self-is ∙ is_open) (old.hears w.if-was_open.true (sent.ensures.was_honest honest) same) honest
            | else-was_open w ↦ let closed = sym w.self-is ∙ is_open in cc
          ];
    }
