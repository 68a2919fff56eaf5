use Rattle.std.proofs.Common.{◌∙◌, List, filter, sym, ap, subst}
use Rattle.mailcore.specs.declared.mailbox.Message.{Message}
use Rattle.mailcore.specs.Listed.{AreRising, AreBelow}
use Rattle.mailcore.specs.Stores.{Store}
use Rattle.wire_tokens.specs.Sets.{names}
use Rattle.imap_session.specs.Mailboxes.{FarMailbox}
use Rattle.imap_session.specs.NamedMessages.{greatest, named_in}
use Rattle.imap_session.specs.Boxes.{far_of, IsServed}
use Rattle.imap_session.specs.Changing.{stays}
use Rattle.imap_session.proofs.ExpungeLemmas.{stay_served, swept_is}
use Rattle.imap_session.proofs.changing.expunge.Goals as goal

pub from_vec-requires : goal.from_vec-requires
from_vec-requires c =
    let m : FarMailbox = far_of c.args.mailbox.now in
    let is = c.keep_staying.ensures ∙ ap (λ (l : List Message). filter (stays (names (greatest l) c.args.set.now)) l) (c.into_vec-list.ensures.list ∙ c.replace-messages.ensures.value) in
    subst AreRising (sym is) (stay_served m (stays (named_in m.store c.args.set.now)) c.requires).store.rising

pub invariant_of-mailbox : goal.invariant_of-mailbox
invariant_of-mailbox c =
    let m : FarMailbox = far_of c.args.mailbox.now in
    let is = c.from_vec.ensures ∙ c.keep_staying.ensures ∙ ap (λ (l : List Message). filter (stays (names (greatest l) c.args.set.now)) l) (c.into_vec-list.ensures.list ∙ c.replace-messages.ensures.value) in
    record { below_next = subst (λ (l : List Message). AreBelow l c.args.mailbox.now.next) (sym is) (stay_served m (stays (named_in m.store c.args.set.now)) c.requires).store.below }

pub returns-clause-store : goal.returns-clause-store
returns-clause-store c =
    let m : FarMailbox = far_of c.args.mailbox.now in
    let is = c.from_vec.ensures ∙ c.keep_staying.ensures ∙ ap (λ (l : List Message). filter (stays (names (greatest l) c.args.set.now)) l) (c.into_vec-list.ensures.list ∙ c.replace-messages.ensures.value) in
    ap (λ (l : List Message). record m { store = record m.store { messages = l } }) is ∙ ap (λ (s : Store). record m { store = s }) (sym (swept_is m.store c.args.set.now c.requires.store.rising))

pub returns-clause-served : goal.returns-clause-served
returns-clause-served c =
    let m : FarMailbox = far_of c.args.mailbox.now in
    let is = c.from_vec.ensures ∙ c.keep_staying.ensures ∙ ap (λ (l : List Message). filter (stays (names (greatest l) c.args.set.now)) l) (c.into_vec-list.ensures.list ∙ c.replace-messages.ensures.value) in
    subst (λ (l : List Message). IsServed (record m { store = record m.store { messages = l } })) (sym is) (stay_served m (stays (named_in m.store c.args.set.now)) c.requires)
