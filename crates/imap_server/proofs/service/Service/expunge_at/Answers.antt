use Rattle.std.proofs.Common.{◌<◌, length, refl, sym, ap, subst, arith}
use Rattle.mailcore.specs.declared.mailbox.StoredMailbox.{StoredMailbox}
use Rattle.imap_session.specs.NamedMessages.{swept}
use Rattle.imap_session.specs.Servers.{Server}
use Rattle.imap_session.specs.Boxes.{far_of, IsServed}
use Rattle.imap_server.proofs.PlaceLemmas.{far_length, served_there}
use Rattle.imap_server.proofs.AppendLemmas.{served_set, view_set}
use Rattle.imap_server.proofs.service.Service.expunge_at.Goals as goal

pub expunge-requires : goal.expunge-requires
expunge-requires c =
    let same = ap (λ (v : Server). length v.mailboxes) c.self.view_is in
    let long = far_length c.self.inside.mailboxes.items in
    let here = c.requires in
    let within : c.args.place < length c.self.inside.mailboxes.items = omega arith in
    subst (λ (m : StoredMailbox). IsServed (far_of m)) (sym c.index_mut.ensures.value) (served_there c.self.inside.mailboxes.items c.args.place c.index_mut.result.now c.self.invariant within)

pub invariant_of-self : goal.invariant_of-self
invariant_of-self c = served_set c.self.inside.mailboxes.items c.args.place c.expunge.new.mailbox c.self.invariant c.expunge.ensures.served

pub returns : goal.returns
returns c =
    let same = ap (λ (v : Server). length v.mailboxes) c.self.view_is in
    let long = far_length c.self.inside.mailboxes.items in
    let here = c.requires in
    let within : c.args.place < length c.self.inside.mailboxes.items = omega arith in
    view_set c.args.self.now _ c.self.inside.mailboxes.items c.args.place c.expunge.new.mailbox c.index_mut.result.now (swept c.args.set.now)
    (ap (λ (v : Server). v.mailboxes) c.self.view_is) (ap (λ (v : Server). v.user) c.self.view_is) (ap (λ (v : Server). v.password) c.self.view_is) (ap (λ (v : Server). v.keywords) c.self.view_is) (ap (λ (v : Server). v.condition) c.self.view_is) (ap (λ (v : Server). v.has_news) c.self.view_is)
    refl within c.index_mut.ensures.value c.expunge.ensures.store
