use Rattle.std.proofs.Common.{◌<◌, length, sym, ap, subst, arith}
use Rattle.mailcore.specs.declared.mailbox.StoredMailbox.{StoredMailbox}
use Rattle.imap_session.specs.Servers.{Server}
use Rattle.imap_session.specs.Boxes.{far_of, IsServed}
use Rattle.imap_server.proofs.PlaceLemmas.{far_length, served_there}
use Rattle.imap_server.proofs.service.Service.mailbox.Goals as goal

pub returns-clause-served : goal.returns-clause-served
returns-clause-served c =
    let same = ap (λ (v : Server). length v.mailboxes) c.self.view_is in
    let long = far_length c.self.inside.mailboxes.items in
    let here = c.requires in
    let within : c.args.place < length c.self.inside.mailboxes.items = omega arith in
    subst (λ (m : StoredMailbox). IsServed (far_of m)) (sym c.index.ensures) (served_there c.self.inside.mailboxes.items c.args.place c.index.result.now c.self.invariant within)
