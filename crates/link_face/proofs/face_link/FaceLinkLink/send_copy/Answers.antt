use Rattle.std.proofs.Common.{◌∙◌, ◌++◌, sym}
use Rattle.mailcore.specs.CopyPieces.{text_left}
use Rattle.wire_reader.specs.Spelling.{crlf}
use Rattle.link_face.proofs.Speaking.{sends_speak}
use Rattle.link_face.proofs.LinkLemmas.{still_speaks}
use Rattle.link_face.proofs.face_link.FaceLinkLink.send_copy.Goals as goal
use Rattle.link_face.proofs.face_link.FaceLinkLink.send_copy.Goals.{then-was_open, else-was_open}

pub invariant_of-self : goal.invariant_of-self
invariant_of-self g c =
    let old = c.args.self.now in
    let noted = c.note_copy in
    let sent = c.send_copy-answer in
    record {
      hears = λ is_open honest same.
          elim c.if-was_open.branch [
            | then-was_open w ↦
                sends_speak g.L.Link.visitors noted.new.self.incoming (text_left c.args.copy ++ crlf) (g.L.Link.line old.link) (g.L.Link.line sent.new.self) (g.L.Link.honest sent.new.self) sent.result sent.ensures.ok
                (sym w.is_ok-self.ensures.value ∙ sym w.self-is ∙ is_open)
                (still_speaks old.face.incoming noted.new.self.incoming (g.L.Link.line old.link) noted.ensures.incoming
                (old.hears (sym noted.ensures.opened ∙ w.if-was_open.true) (sent.ensures.was_honest honest) (sym noted.ensures.renamed ∙ same))) honest
            | else-was_open w ↦ let closed = sym w.self-is ∙ is_open in cc
          ];
    }
