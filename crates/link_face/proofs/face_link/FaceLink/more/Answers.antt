use Rattle.std.proofs.Common.{◌≡◌, ◌++◌, length, take, rules, subst}
use Rattle.imap_session.specs.Lines.{Receives}
use Rattle.link_face.proofs.LinkLemmas.{more_speaks, piece_is}
use Rattle.link_face.proofs.face_link.FaceLink.more.Goals as goal

pub invariant_of-self-2 : goal.invariant_of-self-2
invariant_of-self-2 g c =
    let old = c.args.self.now in
    let count = c.in_ok-count.count in
    let long : length c.recv.new.piece ≡ c.resize.new.self.len = search rules in
    let piece = piece_is c.deref.result.now c.recv.new.piece c.resize.new.self.items c.resize.new.self.len c.deref.ensures.value long in
    let now : c.push.new.self ≡ old.face.incoming ++ take count c.deref.result.now = search rules in
    record {
      hears = λ is_open honest same.
          more_speaks (g.L.Link.line old.link) (g.L.Link.line c.recv.new.self) old.face.incoming c.push.new.self (take count c.deref.result.now) now
          (subst (λ l. Receives (take count l) (g.L.Link.line old.link) (g.L.Link.line c.recv.new.self)) piece (c.in_ok-count.ensures.ok honest))
          (old.hears is_open (c.recv.ensures.was_honest honest) same);
    }
