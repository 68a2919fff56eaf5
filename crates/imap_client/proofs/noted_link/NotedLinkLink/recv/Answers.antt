use Rattle.std.proofs.Common.{◌∙◌, sym}
use Rattle.imap_client.proofs.Keeping.{receives_stand}
use Rattle.imap_client.proofs.noted_link.NotedLinkLink.recv.Goals as goal
use Rattle.imap_client.proofs.noted_link.NotedLinkLink.recv.Goals.{then-stood, else-stood}

pub invariant_of-self : goal.invariant_of-self
invariant_of-self g c =
    let old = c.args.self.now in
    let came = c.recv-answer in
    record {
      standing = λ is_ok honest.
          elim c.if-stood.branch [
            | then-stood w ↦
                let stands = old.standing w.if-stood.true (came.ensures.was_honest honest) in
                receives_stand (g.L.Link.line old.link) (g.L.Link.line came.new.self) (g.L.Link.honest came.new.self) _ came.result came.ensures.ok stands (sym w.is_ok-self.ensures.value ∙ sym w.self-is ∙ is_ok) honest
            | else-stood w ↦ let no = sym w.self-is ∙ is_ok in cc
          ];
    }
