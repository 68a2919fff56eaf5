use Rattle.mail_sides.proofs.Opening.{opens, stays_closed}
use Rattle.mail_sides.proofs.near_side.NearSideMailbox.open.Goals as goal

pub returns-in-Ok-clause-call : goal.returns-in-Ok-clause-call
returns-in-Ok-clause-call g c = opens c.args.self.now c.enter.new.self c.requires.whole c.enter.ensures.missed c.enter.ensures.keywords c.enter.ensures.adds c.meta.result
    c.in-Ok.ensures.looks c.in-Ok.ensures.ready c.enter.ensures.fresh (λ h. c.meta.ensures.mailbox h c.in-Ok.ensures.ready)

pub returns-in-Err-clause-call : goal.returns-in-Err-clause-call
returns-in-Err-clause-call g c = rw c.reported.ensures (stays_closed c.args.self.now c.enter.new.self c.requires.whole c.enter.ensures.missed c.enter.ensures.keywords c.enter.ensures.adds c.in-Err.fault
    c.in-Err.ensures.looks c.in-Err.ensures.mailbox)
