use Rattle.std.proofs.Common.{ap, ◌∙◌, length}
use Rattle.mail_sides.specs.NearFaults.{reported_by}
use Rattle.mail_sides.proofs.NearCalls.{admits, has_no_room, ready}
use Rattle.mail_sides.proofs.near_side.NearSideMailbox.admit.Goals as goal

pub returns-clause-call : goal.returns-clause-call
returns-clause-call g c = rw c.reported_by.ensures (admits c.args.self.now c.admit.new.self c.requires.open c.requires.whole
    c.admit.result c.admit.ensures.ends c.admit.ensures.effect (λ h is. ((c.admit.ensures.exhausted h).0 is).1))

pub returns-clause-full : goal.returns-clause-full
returns-clause-full g c = λ h full.
    c.reported_by.ensures ∙ ap reported_by ((c.admit.ensures.exhausted h).1 (
      ready c.args.self.now c.admit.new.self c.requires.open c.requires.whole,
      has_no_room c.args.self.now c.admit.new.self c.requires.open c.requires.whole (λ b. length b.waiting) full,
    ))
