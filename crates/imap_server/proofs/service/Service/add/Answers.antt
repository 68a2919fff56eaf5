use Rattle.std.proofs.Common.{◌≡◌, ◌<◌, length, Some, refl, sym, ◌∙◌, ap, subst, arith}
use Rattle.std.specs.Prelude.{slice_get}
use Rattle.mailcore.specs.declared.mailbox.StoredMailbox.{StoredMailbox}
use Rattle.mailcore.specs.Operations.{added}
use Rattle.imap_session.specs.Servers.{Server}
use Rattle.imap_session.specs.Boxes.{far_of, store_of, IsServed}
use Rattle.imap_server.proofs.PlaceLemmas.{far_length, far_there, served_there}
use Rattle.imap_server.proofs.AppendLemmas.{served_added, served_after, view_after}
use Rattle.imap_server.proofs.service.Service.add.Goals as goal

pub add-requires : goal.add-requires
add-requires c =
    let same = ap (λ (v : Server). length v.mailboxes) c.self.view_is in
    let long = far_length c.self.inside.mailboxes.items in
    let here = c.requires.within in
    let within : c.args.place < length c.self.inside.mailboxes.items = omega arith in
    c.requires.next (far_of c.index_mut.result.now)
    (ap (λ (v : Server). slice_get v.mailboxes c.args.place) (sym c.self.view_is) ∙ far_there c.self.inside.mailboxes.items c.args.place c.index_mut.result.now within
    ∙ ap (λ (m : StoredMailbox). Some (far_of m)) (sym c.index_mut.ensures.value))

pub invariant_of-self : goal.invariant_of-self
invariant_of-self c =
    let raw = c.self.inside.mailboxes.items in
    let d = c.index_mut.result.now in
    let same = ap (λ (v : Server). length v.mailboxes) c.self.view_is in
    let long = far_length c.self.inside.mailboxes.items in
    let here = c.requires.within in
    let within : c.args.place < length c.self.inside.mailboxes.items = omega arith in
    let is : IsServed (far_of d) = subst (λ (m : StoredMailbox). IsServed (far_of m)) (sym c.index_mut.ensures.value) (served_there raw c.args.place d c.self.invariant within) in
    let next : c.args.uid ≡ d.next =
    c.requires.next (far_of d)
    (ap (λ (v : Server). slice_get v.mailboxes c.args.place) (sym c.self.view_is) ∙ far_there raw c.args.place d within ∙ ap (λ (m : StoredMailbox). Some (far_of m)) (sym c.index_mut.ensures.value)) in
    let number = c.get.ensures.number in
    let positive = c.get.ensures.positive in
    let last = c.get.ensures.below_last in
    let bits = c.bits.ensures.bits in
    let set = c.bits.ensures.set in
    let octets = c.requires.literal in
    let more = served_added (far_of d) c.args.uid c.args.flags c.args.message.items is next (omega arith) (omega arith) (omega arith) octets in
    served_after c.add.result raw c.args.place c.add.new.mailbox d (added c.args.uid c.args.flags c.args.message.items (store_of d)) c.self.invariant is c.add.ensures.ok c.add.ensures.err more

pub returns-clause-ok : goal.returns-clause-ok
returns-clause-ok c =
    let same = ap (λ (v : Server). length v.mailboxes) c.self.view_is in
    let long = far_length c.self.inside.mailboxes.items in
    let here = c.requires.within in
    let within : c.args.place < length c.self.inside.mailboxes.items = omega arith in
    view_after c.add.result c.args.self.now _ c.self.inside.mailboxes.items c.args.place c.add.new.mailbox c.index_mut.result.now (added c.args.uid c.args.flags c.args.message.items)
    (ap (λ (v : Server). v.mailboxes) c.self.view_is) (ap (λ (v : Server). v.user) c.self.view_is) (ap (λ (v : Server). v.password) c.self.view_is) (ap (λ (v : Server). v.keywords) c.self.view_is) (ap (λ (v : Server). v.condition) c.self.view_is) (ap (λ (v : Server). v.has_news) c.self.view_is)
    refl within c.index_mut.ensures.value c.add.ensures.ok
