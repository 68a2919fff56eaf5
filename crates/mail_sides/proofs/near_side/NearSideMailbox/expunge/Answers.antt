use Rattle.std.proofs.Common.{subst, Bool}
use Rattle.near_box.specs.Boxes.{mailbox_of, stored_in}
use Rattle.mailcore.specs.Mailboxes.{on_store}
use Rattle.near_box.specs.Mailboxes.{near_of}
use Rattle.outside.specs.MailboxOperations.{removed}
use Rattle.mail_sides.proofs.NearCalls.{ready, turns}
use Rattle.mail_sides.proofs.Removals.{IsMarkedAs, removes_none, removes_one}
use Rattle.mail_sides.proofs.near_side.NearSideMailbox.expunge.Goals as goal

pub returns-then-is_deleted-clause-call : goal.returns-then-is_deleted-clause-call
returns-then-is_deleted-clause-call g c =
    let s = c.args.self.now in
    let new = c.expunge.new.self in
    let n = mailbox_of s.near in
    rw c.reported_by.ensures (turns s new c.requires.open c.requires.whole
    (on_store (removed c.args.uid)) c.expunge.result c.expunge.ensures.ends
    (λ h. removes_one c.args.uid n (near_of s.near.fresh s.near.keywords (stored_in new)) c.expunge.result
    (subst (λ (is : Bool). IsMarkedAs c.args.uid is n) c.if-is_deleted.true (c.is_deleted.ensures.marked (c.expunge.ensures.was_honest h) (ready s s.near c.requires.open c.requires.whole)))
    (c.expunge.ensures.effect h)))

pub returns-else-is_deleted-clause-call : goal.returns-else-is_deleted-clause-call
returns-else-is_deleted-clause-call g c =
    let s = c.args.self.now in
    removes_none s c.args.uid c.requires.whole
    (λ h. subst (λ (is : Bool). IsMarkedAs c.args.uid is (mailbox_of s.near)) c.if-is_deleted.false (c.is_deleted.ensures.marked h (ready s s.near c.requires.open c.requires.whole)))
