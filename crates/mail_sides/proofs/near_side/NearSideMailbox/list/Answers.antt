use Rattle.mailcore.specs.declared.side.Side.TheVariants as side
use Rattle.mailcore.specs.Spared.{spares}
use Rattle.outside.specs.MailboxOperations.{Lists}
use Rattle.near_box.specs.Boxes.{stored_in}
use Rattle.mail_sides.proofs.NearCalls.{reads}
use Rattle.mail_sides.proofs.Within.{lists_within}
use Rattle.mail_sides.proofs.near_side.NearSideMailbox.list.Goals as goal

pub returns-clause-call : goal.returns-clause-call
returns-clause-call g c = rw c.reported_by.ensures (reads c.args.self.now c.list_sparing.new.self c.requires.open c.requires.whole
    (Lists side.Near g.F.Folder.visitors.alone 0 (spares c.args.spared.now)) c.list_sparing.result c.list_sparing.ensures.ends (λ h. (c.list_sparing.ensures.keeps h).0) c.list_sparing.ensures.shows)

pub returns-clause-within : goal.returns-clause-within
returns-clause-within g c = λ h.
    let near = c.args.self.now.near in
    rw c.reported_by.ensures (lists_within near.fresh near.keywords (spares c.args.spared.now) (stored_in near) c.list_sparing.result (c.list_sparing.ensures.shows h))
