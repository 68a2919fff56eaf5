use Rattle.std.proofs.Common.{rules}
use Rattle.worlds.proofs.AdmissionLemmas.{not_refused}
use Rattle.worlds.proofs.read_mailbox.admit.Goals as goal

pub returns-clause-full : goal.returns-clause-full
returns-clause-full c = λ e some.
    let near = c.args.near.now in
    absurd (not_refused near.messages near.next c.in_ok-uid.uid c.get.result near.below_next (search rules) c.get.ensures.number (c.push.ensures.out_of_order.0 e))
