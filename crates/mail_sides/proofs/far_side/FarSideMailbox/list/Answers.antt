use Rattle.mailcore.specs.Spared.{spares}
use Rattle.mail_sides.specs.FarSides.{seen_of}
use Rattle.mail_sides.proofs.SideCalls.{lists}
use Rattle.mail_sides.proofs.far_side.FarSideMailbox.list.Goals as goal

pub returns-clause-call : goal.returns-clause-call
returns-clause-call g c =
    let said = c.list_anew.ensures in
    rw c.reported_by.ensures (lists c.args.self.now c.list_anew.new.self said.mailbox said.keywords c.requires.whole (seen_of c.args.self.now).stored.store.next (spares c.args._spared.now) c.list_anew.result said.selected said.ends said.outcome)
