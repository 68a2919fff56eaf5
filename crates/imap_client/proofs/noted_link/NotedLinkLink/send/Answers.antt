use Rattle.std.proofs.Common.{◌∙◌, sym, subst}
use Rattle.imap_link.specs.Sending.{SomeThen}
use Rattle.imap_link.proofs.Unsent.{nothing_sent}
use Rattle.imap_client.proofs.Keeping.{sends_keep, sends_stand}
use Rattle.imap_client.proofs.noted_link.NotedLinkLink.send.Goals as goal

pub returns-then-not-self-clause-err : goal.returns-then-not-self-clause-err
returns-then-not-self-clause-err g c h =
    let v = g.L.Link.visitors in
    let line = g.L.Link.line c.args.self.now.link in
    subst (λ l. SomeThen v line c.args.bytes.now (g.L.Link.line l).end.server) (sym c.refuse.ensures.link) (nothing_sent v line c.args.bytes.now)

pub invariant_of-self : goal.invariant_of-self
invariant_of-self g c =
    let old = c.args.self.now in
    let sent = c.send-answer in
    record {
      standing = λ is_ok honest.
          let stands = old.standing c.if-not-self.false (sent.ensures.was_honest honest) in
          sends_stand g.L.Link.visitors (g.L.Link.line old.link) c.args.bytes.now stands (g.L.Link.honest sent.new.self) (g.L.Link.line sent.new.self) sent.result sent.ensures.ok (sym c.is_ok-self.ensures.value ∙ is_ok) honest;
    }

pub returns-then-eq-clause-was_honest : goal.returns-then-eq-clause-was_honest
returns-then-eq-clause-was_honest g c h =
    let old = c.args.self.now in
    let sent = c.send-answer in
    let was = sent.ensures.was_honest h.0 in
    let stands = old.standing c.if-not-self.false was in
    (was, sym (sends_keep g.L.Link.visitors (g.L.Link.line old.link) c.args.bytes.now stands (g.L.Link.honest sent.new.self) (g.L.Link.line sent.new.self) sent.result sent.ensures.ok sent.ensures.err h.0) ∙ h.1)

pub returns-else-eq-clause-was_honest : goal.returns-else-eq-clause-was_honest
returns-else-eq-clause-was_honest g c h =
    let old = c.args.self.now in
    let sent = c.send-answer in
    let was = sent.ensures.was_honest h.0 in
    let stands = old.standing c.if-not-self.false was in
    (was, sym (sends_keep g.L.Link.visitors (g.L.Link.line old.link) c.args.bytes.now stands (g.L.Link.honest sent.new.self) (g.L.Link.line sent.new.self) sent.result sent.ensures.ok sent.ensures.err h.0) ∙ h.1)
