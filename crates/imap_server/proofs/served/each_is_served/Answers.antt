use Rattle.std.proofs.Common.{All, refl, subst}
use Rattle.std.proofs.lemmas.List.{take_all}
use Rattle.std.proofs.lemmas.List.Elements.{All-more}
use Rattle.mailcore.specs.declared.mailbox.StoredMailbox.{StoredMailbox}
use Rattle.imap_session.specs.Boxes.{far_of, IsServed}
use Rattle.imap_server.proofs.served.each_is_served.Goals as goal

-- src/served.rt:23:5
pub loop-mailbox-preserved : goal.loop-mailbox-preserved
loop-mailbox-preserved c =
    All-more (λ (m : StoredMailbox). IsServed (far_of m)) c.args.mailboxes.now c.loop-mailbox.mailbox-index c.mailbox-item.result c.loop-mailbox-test.true c.loop-mailbox.invariant
    (subst (λ (m : StoredMailbox). IsServed (far_of m)) c.mailbox-item.is (c.is_served.ensures.yes c.if-not-is_served.false))

-- src/served.rt:20:1
pub returns : goal.returns
returns c =
    (λ _. subst (All (λ (m : StoredMailbox). IsServed (far_of m))) (take_all c.loop-mailbox.mailbox-index c.args.mailboxes.now c.loop-mailbox-test.false) c.loop-mailbox.invariant, λ _. refl)
