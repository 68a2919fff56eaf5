use Rattle.std.proofs.Common.{◌∙◌, ℕ, Bool, List, map, sym, ap, subst}
use Rattle.std.proofs.lemmas.List.{take_at}
use Rattle.mailcore.specs.declared.mailbox.Message.{Message}
use Rattle.mailcore.specs.Listed.{AreRising, AreBelow}
use Rattle.mailcore.specs.Stores.{Store}
use Rattle.wire_tokens.specs.Sets.{names}
use Rattle.imap_session.specs.Mailboxes.{FarMailbox}
use Rattle.imap_session.specs.NamedMessages.{greatest, named_in}
use Rattle.imap_session.specs.Boxes.{far_of, store_of, IsServed}
use Rattle.imap_session.specs.Changing.{given}
use Rattle.imap_session.proofs.StoreLemmas.{given_rise, given_below, given_served, stored_is}
use Rattle.imap_session.proofs.changing.store.Goals as goal

pub from_vec-requires : goal.from_vec-requires
from_vec-requires c =
    let ms = c.args.mailbox.now.messages in
    let named : ℕ → Bool = named_in (store_of c.args.mailbox.now) c.args.set.now in
    let is = take_at c.give_flags.new.list _ c.into_vec-list.result.len (c.give_flags.auto.list ∙ c.deref_mut.ensures.len) ∙ c.give_flags.ensures
    ∙ ap (λ (l : List Message). map (given (names (greatest l) c.args.set.now) c.args.mode c.args.flags) l) (c.deref_mut.ensures.value ∙ c.into_vec-list.ensures.list ∙ c.replace-messages.ensures.value) in
    subst AreRising (sym is) (given_rise named c.args.mode c.args.flags ms c.requires.store.rising)

pub invariant_of-mailbox : goal.invariant_of-mailbox
invariant_of-mailbox c =
    let ms = c.args.mailbox.now.messages in
    let named : ℕ → Bool = named_in (store_of c.args.mailbox.now) c.args.set.now in
    let is = c.from_vec.ensures ∙ take_at c.give_flags.new.list _ c.into_vec-list.result.len (c.give_flags.auto.list ∙ c.deref_mut.ensures.len) ∙ c.give_flags.ensures
    ∙ ap (λ (l : List Message). map (given (names (greatest l) c.args.set.now) c.args.mode c.args.flags) l) (c.deref_mut.ensures.value ∙ c.into_vec-list.ensures.list ∙ c.replace-messages.ensures.value) in
    record { below_next = subst (λ (l : List Message). AreBelow l c.args.mailbox.now.next) (sym is) (given_below named c.args.mode c.args.flags ms c.args.mailbox.now.next c.requires.store.below) }

pub returns-clause-store : goal.returns-clause-store
returns-clause-store c =
    let m : FarMailbox = far_of c.args.mailbox.now in
    let is = c.from_vec.ensures ∙ take_at c.give_flags.new.list _ c.into_vec-list.result.len (c.give_flags.auto.list ∙ c.deref_mut.ensures.len) ∙ c.give_flags.ensures
    ∙ ap (λ (l : List Message). map (given (names (greatest l) c.args.set.now) c.args.mode c.args.flags) l) (c.deref_mut.ensures.value ∙ c.into_vec-list.ensures.list ∙ c.replace-messages.ensures.value) in
    ap (λ (l : List Message). record m { store = record m.store { messages = l } }) is
    ∙ ap (λ (s : Store). record m { store = s }) (sym (stored_is m.store c.args.set.now c.args.mode c.args.flags c.requires.store.rising))

pub returns-clause-served : goal.returns-clause-served
returns-clause-served c =
    let m : FarMailbox = far_of c.args.mailbox.now in
    let is = c.from_vec.ensures ∙ take_at c.give_flags.new.list _ c.into_vec-list.result.len (c.give_flags.auto.list ∙ c.deref_mut.ensures.len) ∙ c.give_flags.ensures
    ∙ ap (λ (l : List Message). map (given (names (greatest l) c.args.set.now) c.args.mode c.args.flags) l) (c.deref_mut.ensures.value ∙ c.into_vec-list.ensures.list ∙ c.replace-messages.ensures.value) in
    subst (λ (l : List Message). IsServed (record m { store = record m.store { messages = l } })) (sym is) (given_served (named_in m.store c.args.set.now) c.args.mode c.args.flags m c.requires)
