use Rattle.std.proofs.Common.{◌∙◌, sym}
use Rattle.imap_client.proofs.Keeping.{restarts_stand}
use Rattle.imap_client.proofs.noted_link.NotedLinkLink.reconnect.Goals as goal

pub invariant_of-self : goal.invariant_of-self
invariant_of-self g c =
    let made = c.reconnect-answer in
    record {
      standing = λ is_ok honest.
          restarts_stand (g.L.Link.line c.args.self.now.link) (g.L.Link.line made.new.self) (g.L.Link.honest made.new.self) made.result made.ensures.ok (sym c.is_ok-self.ensures.value ∙ is_ok) honest;
    }
