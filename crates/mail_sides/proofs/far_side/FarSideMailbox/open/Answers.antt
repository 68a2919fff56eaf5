use Rattle.mail_sides.proofs.SideCalls.{opens}
use Rattle.mail_sides.proofs.far_side.FarSideMailbox.open.Goals as goal

pub returns-clause-call : goal.returns-clause-call
returns-clause-call g c =
    let said = c.reach.ensures in
    rw c.reported_by.ensures (opens c.args.self.now c.reach.new.self said.mailbox said.keywords c.requires.whole c.reach.result said.selected said.ends said.outcome)
