use Rattle.std.proofs.Common.{◌≡◌, true, rules}
use Rattle.mail_sides.proofs.NearCalls.{nothing_done, rests}
use Rattle.mail_sides.proofs.near_side.NearSideMailbox.sync.Goals as goal

pub returns-then-not-self-clause-call : goal.returns-then-not-self-clause-call
returns-then-not-self-clause-call g c = nothing_done c.args.self.now c.requires.whole

pub returns-clause-call : goal.returns-clause-call
returns-clause-call g c =
    let is_open : c.args.self.now.is_open ≡ true = search rules in
    rw c.reported_by.ensures (rests c.args.self.now c.sync.new.self is_open c.requires.whole c.sync.result c.sync.ensures.ends (λ h. (c.sync.ensures.keeps h).0))
